-- Values of one type in ascending order of their encodings, as in a SET OF under DER (X.690 8.12,
-- 11.6): `AreAscending`.
use Rattle.std.specs.Prelude.{◌≡◌, ℕ, List, [], ◌∷◌}
use Rattle.der.specs.Prelude.{IsBefore}
use Rattle.der_asn1.specs.SequenceOf.{IsListOf}

-- no encoding is smaller than the one before it, and the first is not smaller than `previous`
abbrev pub EncodingsAscendAfter : {A : Type 0} → (A → List ℕ) → List ℕ → List A → Type 0
EncodingsAscendAfter encoding previous [] = Unit {0}
EncodingsAscendAfter encoding previous (v ∷ vs) = (IsBefore (encoding v) previous → ⊥)
    × EncodingsAscendAfter encoding (encoding v) vs

-- octets are the encodings of valid values, in sequence and in ascending order, and the first
-- encoding is not smaller than `previous`
pub record IsSetAfter {A : Type 0} (valid : A → Type 0) (encoding : A → List ℕ)
    (previous octets : List ℕ) : Type 0 where
  pub list : IsListOf valid encoding octets
  pub ascend : EncodingsAscendAfter encoding previous list.items

-- octets are the encodings of valid values, in ascending order
abbrev pub AreAscending : {A : Type 0} → (A → Type 0) → (A → List ℕ) → List ℕ → Type 0
AreAscending valid encoding octets = IsSetAfter valid encoding [] octets

-- octets are the encoding of a valid value
pub record IsEncoded {A : Type 0} (valid : A → Type 0) (encoding : A → List ℕ) (octets : List ℕ)
    : Type 0 where
  pub value : A
  pub is_valid : valid value
  pub whole : octets ≡ encoding value
