-- BIT STRINGs that contain an element (X.682 11): a zero octet, since no bits are unused (X.690
-- 8.6.2.2), and then the element (`TakesBitsOf`, `bits_containing`).
use Rattle.std.specs.Prelude.{ℕ, ◌≤◌, List, [], ◌∷◌, ◌++◌, nat_lt, ⊤}
use Rattle.std.proofs.Common.{arith}
use Rattle.der.specs.Prelude.{BitString, Der, ElementNext, EncodingRules, FieldsNext, Head}
use Rattle.der.specs.Prelude.{IsLawful, Tag, TakesWhole, element_levels, element_octets}
use Rattle.der.specs.Prelude.{fields_levels}
use Rattle.der.specs.Lawful.{ReadsEncodings}
use Rattle.der.specs.LawfulLemmas.{elements_are_encodings}
use Rattle.der_asn1.specs.FollowLemmas.{encodings_are_fields, fields_follow, fields_lawful}
use Rattle.der_asn1.specs.Meaning.{ElementSpec, is_shallow, shallow}
use Rattle.der_asn1.specs.TagSetLemmas.{both_true}
use Rattle.der_asn1.specs.ZeroOctet.{ZeroNext}
use Rattle.der_asn1.specs.declared.strings.no_unused_bits.NoUnusedBits.{NoUnusedBits}
use Rattle.der_asn1.specs.declared.strings.no_unused_bits.NoUnusedBits.TheVariants.{Zero}

-- the contents are a zero and then an element
abbrev pub TakesBitsOf : {A B : Type 0} → Tag → (A → EncodingRules → Head → List ℕ → Type 0)
    → (B → A) → B → EncodingRules → Head → List ℕ → Type 0
TakesBitsOf tag takes value b =
    TakesWhole (FieldsNext (λ (n : NoUnusedBits). ZeroNext) (ElementNext tag takes)) (Zero, value b)

abbrev pub bits_of_levels : (EncodingRules → ℕ) → EncodingRules → ℕ
bits_of_levels levels = fields_levels (λ _. 0) (element_levels levels)

pub bits_of_hold : {A B : Type 0} {tag : Tag} {takes : A → EncodingRules → Head → List ℕ → Type 0}
    {valid : A → Type 0} (value : B → A)
    → ((v : A) (rules : EncodingRules) (h : Head) (octets : List ℕ) → takes v rules h octets
    → valid v) → (b : B) (rules : EncodingRules) (h : Head) (octets : List ℕ)
    → TakesBitsOf tag takes value b rules h octets → valid (value b)
bits_of_hold value holds b rules h octets taken =
    holds (value b) rules _ taken.following.contents taken.following.taken

zero_reads : ReadsEncodings (λ (n : NoUnusedBits). ZeroNext) (λ n. ⊤) (λ n. 0 ∷ [])
zero_reads =
    record {
      only = λ octets v m e.
          record { is_valid = tt; following = e.following; split = e.split; whole = e.whole };
      every = λ octets v m short e.
          record { following = e.following; split = e.split; whole = e.whole };
    }

-- a BIT STRING that contains an element of a lawful type is lawful, if that needs at most 62 levels
-- of nesting
pub bits_of_lawful : {A B : Type 0} {tag : Tag}
    {takes : A → EncodingRules → Head → List ℕ → Type 0} {valid : A → Type 0}
    {contents : A → List ℕ} {levels : EncodingRules → ℕ} (value : B → A)
    → IsLawful tag takes valid contents levels → levels Der ≤ 62
    → IsLawful BitString (TakesBitsOf tag takes value) (λ b. valid (value b))
    (λ b. 0 ∷ element_octets tag (contents (value b))) (bits_of_levels levels)
bits_of_lawful {A} {B} {tag} {takes} {valid} {contents} {levels} value laws low =
    record {
      exact = λ octets b short. (
        λ h. (let e = (both.exact octets b short).0 h in (e.0.1, e.1)),
        λ h. (both.exact octets b short).1 ((tt, h.0), h.1),
      );
      shallow = both.shallow;
      numbered = both.numbered;
    }
  where
    both : IsLawful BitString (TakesBitsOf tag takes value) (λ b. ⊤ × valid (value b))
        (λ b. (0 ∷ []) ++ element_octets tag (contents (value b))) (bits_of_levels levels)
    both = fields_lawful BitString (bits_of_levels levels) (λ b. (Zero, value b))
        (fields_follow (encodings_are_fields zero_reads)
        (encodings_are_fields (elements_are_encodings laws)))
        (λ v is. (tt, tt)) (omega (arith, low)) (omega arith)

-- a BIT STRING that contains an element
abbrev pub bits_containing : {A B : Type 0} → ElementSpec A → (B → A) → ElementSpec B
bits_containing one f =
    record {
      tag = BitString;
      takes = TakesBitsOf one.tag one.takes f;
      valid = λ b. one.valid (f b);
      contents = λ b. 0 ∷ element_octets one.tag (one.contents (f b));
      levels = bits_of_levels one.levels;
      is_compatible = is_shallow one.is_compatible one.levels;
      lawful = λ e. (let p = both_true one.is_compatible (nat_lt (one.levels Der) 63) e in
          bits_of_lawful f (one.lawful p.0) (shallow one.is_compatible one.levels e));
      holds = λ e. bits_of_hold f
          (one.holds (both_true one.is_compatible (nat_lt (one.levels Der) 63) e).0);
    }
