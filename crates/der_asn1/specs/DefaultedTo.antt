-- Fields with a default that is given by its contents octets (`has_contents`, `defaulted_to`).
use Rattle.std.specs.Prelude.{ℕ, Bool, false, List, [], ◌∷◌, bytes_eq}
use Rattle.der.specs.Prelude.{ElementNext, element_levels, element_octets}
use Rattle.der_asn1.specs.Default.{DefaultNext, IsDefaulted, default_encoding, DefaultPrecedes}
use Rattle.der_asn1.specs.Follow.{Anything, this_tag}
use Rattle.der_asn1.specs.Meaning.{ElementSpec, FieldSpec}
use Rattle.der_asn1.specs.TagSets.{one_tag}
use Rattle.der_asn1.specs.SetLaws.{default_set, element_decided_by_tag}

-- whether the contents of a value are these octets
abbrev pub has_contents : {A : Type 0} → (A → List ℕ) → List ℕ → A → Bool
has_contents contents octets v = bytes_eq (contents v) octets

-- a DEFAULT field, whose default is the value with these contents
abbrev pub defaulted_to : {A B : Type 0} → List ℕ → ElementSpec A → (B → A) → FieldSpec B
defaulted_to octets one f =
    record {
      is_next = λ b. DefaultNext (this_tag one.tag) (has_contents one.contents octets)
          (ElementNext one.tag one.takes) (f b);
      valid = λ b. IsDefaulted (has_contents one.contents octets) one.valid (f b);
      encoding = λ b. default_encoding (has_contents one.contents octets)
          (λ v. element_octets one.tag (one.contents v)) (f b);
      levels = element_levels one.levels;
      always = false;
      first = one_tag one.tag ∷ [];
      stops = one_tag one.tag ∷ [];
      precedes = λ b. DefaultPrecedes (this_tag one.tag) (has_contents one.contents octets) Anything
          (f b);
      is_compatible = one.is_compatible;
      laws = λ e. default_set (element_decided_by_tag (one.lawful e) (one.holds e))
          (has_contents one.contents octets) f;
    }
