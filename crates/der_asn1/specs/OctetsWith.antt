-- Octets borrowed from the input that have a property, such as being the elements of a list or set:
-- they are accepted as contents (`AcceptsOctetsWith`), and a value consists of them
-- (`HasOctetsWith`).
use Rattle.std.specs.Prelude.{◌≡◌, ℕ, ◌^◌, ◌<◌, List, length}
use Rattle.std.proofs.Common.{arith, subst, sym}
use Rattle.der.specs.Prelude.{Head, Tag, EncodingRules, Der, IsLawful}
use Rattle.der.specs.Lawful.{definite_head}
use Rattle.der.specs.Tag.{label}

-- octets with the property are the contents of the value, under any rules
abbrev pub AcceptsOctetsWith : {B : Type 0} → (List ℕ → Type 0) → (B → List ℕ) → B → EncodingRules
    → Head
    → List ℕ → Type 0
AcceptsOctetsWith Holds octets_of v rules h octets =
    ∥ Holds octets ∥₁ × (length octets < 2 ^ 32) × (octets_of v ≡ octets)

-- the octets of a value have the property, and their number fits in a `Length`
abbrev pub HasOctetsWith : {B : Type 0} → (List ℕ → Type 0) → (B → List ℕ) → B → Type 0
HasOctetsWith Holds octets_of v = ∥ Holds (octets_of v) ∥₁ × (length (octets_of v) < 2 ^ 32)

-- if contents are accepted as a value, the octets of the value have the property
pub octets_with_accepts_valid : {B : Type 0} (Holds : List ℕ → Type 0) (octets_of : B → List ℕ)
    (v : B)
    (rules : EncodingRules) (h : Head) (octets : List ℕ)
    → AcceptsOctetsWith Holds octets_of v rules h octets → HasOctetsWith Holds octets_of v
octets_with_accepts_valid Holds octets_of v rules h octets taken = (
  subst (λ x. ∥ Holds x ∥₁) (sym taken.2) taken.0,
  subst (λ x. length x < 2 ^ 32) (sym taken.2) taken.1,
)

-- a type of such values is lawful
pub octets_with_lawful : {B : Type 0} (outer : Tag) (Holds : List ℕ → Type 0)
    (octets_of : B → List ℕ)
    → (label outer).number < 2 ^ 32
    → IsLawful outer (AcceptsOctetsWith Holds octets_of) (HasOctetsWith Holds octets_of) octets_of
    (λ _. 0)
octets_with_lawful outer Holds octets_of numbered =
    record {
      exact = λ octets v short. (
        λ h. (
          octets_with_accepts_valid Holds octets_of v Der
              (definite_head outer 0) octets h,
          h.2,
        ),
        λ h. (subst (λ x. ∥ Holds x ∥₁) h.1 h.0.0, short, h.1),
      );
      shallow = omega arith;
      numbered = numbered;
    }
