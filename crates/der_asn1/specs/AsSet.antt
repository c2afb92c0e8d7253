-- A SET with components (X.690 8.11): the contents of a SEQUENCE after the tag of a SET.
use Rattle.std.specs.Prelude.{ℕ, List}
use Rattle.std.proofs.Common.{arith}
use Rattle.der.specs.Prelude.{Tag, Set, EncodingRules, Head, IsLawful}
use Rattle.der_asn1.specs.ContextSpecific.{retagged, TakesImplicit, implicit_lawful}
use Rattle.der_asn1.specs.Meaning.{ElementSpec}

-- a lawful type with the tag of a SET is lawful
pub as_set_lawful : {A B : Type 0} {tag : Tag}
    {takes : A → EncodingRules → Head → List ℕ → Type 0} {valid : A → Type 0}
    {contents : A → List ℕ} {levels : EncodingRules → ℕ} (value : B → A)
    → IsLawful tag takes valid contents levels
    → IsLawful Set (TakesImplicit tag takes value) (λ b. valid (value b))
    (λ b. contents (value b)) levels
as_set_lawful value laws = implicit_lawful Set value (omega arith) laws

-- the same contents with the tag of a SET
abbrev pub as_set : {A B : Type 0} → ElementSpec A → (B → A) → ElementSpec B
as_set one f =
    record {
      tag = Set;
      takes = TakesImplicit one.tag one.takes f;
      valid = λ b. one.valid (f b);
      contents = λ b. one.contents (f b);
      levels = one.levels;
      is_compatible = one.is_compatible;
      lawful = λ e. as_set_lawful f (one.lawful e);
      holds = λ e b rules h octets taken. one.holds e (f b) rules (retagged one.tag h) octets taken;
    }
