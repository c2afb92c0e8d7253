-- Properties of lists: that one item has a property (`SomeItem`), and that the items of two lists
-- match in pairs (`Pairwise`); and that octets are lists with such a property (`IsListWith`,
-- `AreListsWith`).
use Rattle.std.specs.Prelude.{◌≡◌, ◌⊎◌, Bool, ℕ, false, List, [], ◌∷◌}
use Rattle.der_asn1.specs.SequenceOf.{IsListOf}

-- one of the items of a list has the property
abbrev pub SomeItem : {A : Type 0} → (A → Type 0) → List A → Type 0
SomeItem P [] = ⊥
SomeItem P (v ∷ vs) = P v ⊎ SomeItem P vs

-- each item of one list matches the item of another at the same place; the other list has no item
-- more, unless its beginning alone counts
abbrev pub Pairwise : {A : Type 0} → (A → A → Type 0) → Bool → List A → List A → Type 0
Pairwise R whole [] [] = Unit {0}
Pairwise R whole [] (w ∷ ws) = whole ≡ false
Pairwise R whole (v ∷ vs) [] = ⊥
Pairwise R whole (v ∷ vs) (w ∷ ws) = R v w × Pairwise R whole vs ws

-- octets are the encodings of the items of a list, which has a property
abbrev pub IsListWith
    : {A : Type 0} → (A → Type 0) → (A → List ℕ) → (List A → Type 0) → List ℕ → Type 0
IsListWith valid encoding P octets = ∥ ((l : IsListOf valid encoding octets) × P l.items) ∥₁

-- the same of two lists, which have a relation
abbrev pub AreListsWith
    : {A : Type 0} → (A → Type 0) → (A → List ℕ) → (List A → List A → Type 0) → List ℕ → List ℕ
    → Type 0
AreListsWith valid encoding R first second =
    ∥ ((l : IsListOf valid encoding first) × (m : IsListOf valid encoding second)
    × R l.items m.items) ∥₁
