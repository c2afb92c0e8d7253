-- Values of one type, in sequence, as in a SEQUENCE OF (X.690 8.10): `IsListOf` for their
-- encodings; `IsAtItem` is a reader that can read them.
use Rattle.std.specs.Prelude.{◌≡◌, ℕ, false, List, [], ◌∷◌, ◌++◌}
use Rattle.der.specs.Prelude.{Der, ReaderState}

-- all values of a list are valid; below, their encodings in sequence
abbrev pub AllValid : {A : Type 0} → (A → Type 0) → List A → Type 0
AllValid valid [] = Unit {0}
AllValid valid (v ∷ vs) = valid v × AllValid valid vs

abbrev pub joined_encodings : {A : Type 0} → (A → List ℕ) → List A → List ℕ
joined_encodings encoding [] = []
joined_encodings encoding (v ∷ vs) = encoding v ++ joined_encodings encoding vs

-- octets are the encodings of valid values, in sequence
pub record IsListOf {A : Type 0} (valid : A → Type 0) (encoding : A → List ℕ) (octets : List ℕ)
    : Type 0 where
  pub items : List A
  pub are_valid : AllValid valid items
  pub joined : octets ≡ joined_encodings encoding items

-- a DER reader that has not failed and is not inside a nested part
pub record IsAtItem (s : ReaderState) : Type 0 where
  pub der : s.rules ≡ Der
  pub working : s.failed ≡ false
  pub outside : s.depth ≡ 0
