-- The first item of a list that does not have a property (`FirstFailing`).
use Rattle.std.specs.Prelude.{◌≡◌, ℕ, List, ◌∷◌, ◌++◌, Option, Some, None, All, length}

-- the item at this place has the second property, and all items before it have the first one
pub record IsFirstAt {A : Type 0} (P Q : A → Type 0) (items : List A) (place : ℕ) : Type 0 where
  pub before : List A
  pub item : A
  pub after : List A
  pub split : items ≡ before ++ item ∷ after
  pub at : length before ≡ place
  pub holds : All P before
  pub stops : Q item

-- the item at this place is the first one without the property
abbrev pub FailsFirstAt : {A : Type 0} → (A → Type 0) → List A → ℕ → Type 0
FailsFirstAt P items place = IsFirstAt P (λ v. P v → ⊥) items place

-- all items have the property, or this is the place of the first one without it; the first place is
-- 0
abbrev pub FirstFailing : {A : Type 0} → (A → Type 0) → List A → Option ℕ → Type 0
FirstFailing P items None = All P items
FirstFailing P items (Some place) = FailsFirstAt P items place
