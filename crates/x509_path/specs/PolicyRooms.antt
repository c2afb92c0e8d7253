-- Rooms of the caller that are filled one item after the other.
use Rattle.std.specs.Prelude.{◌≡◌, ◌≤◌, ◌<◌, ◌+◌, ℕ, List, [], ◌∷◌, ◌++◌, Option, Some, None, MatchOption, length, map, take}
use Rattle.x509_path.specs.declared.filled.Filled.{Filled}
use Rattle.x509_path.specs.declared.filled.Filled.TheVariants.{NoRoom, To, Unreadable}

-- the front of a room, up to one place, has grown up to another, by these items
pub record Grows {X : Type 0} (old new : List X) (from to : ℕ) (added : List X) : Type 0 where
  pub front : take to new ≡ take from old ++ added
  pub end : to ≡ from + length added
  pub fits : to ≤ length old

-- a room that is filled up to a place, or has too little room
abbrev pub filled : Option ℕ → Filled
filled None = NoRoom
filled (Some to) = To to

-- a place in a room, if there is one
abbrev pub IsWithin : {X : Type 0} → List X → Option ℕ → Type 0
IsWithin room None = Unit {0}
IsWithin room (Some at) = at ≤ length room

-- an item is put at a place, unless the room is full
abbrev pub Pushed : {X : Type 0} → List X → List X → Option ℕ → X → Option ℕ → Type 0
Pushed old new None x result = result ≡ None
Pushed old new (Some at) x None = length old ≤ at
Pushed old new (Some at) x (Some to) =
    (to ≡ at + 1) × (at < length old) × (take to new ≡ take at old ++ x ∷ [])

-- it has grown by items that say this, or there is too little room
abbrev pub Puts : {X Y : Type 0} → (X → Y) → List X → List X → ℕ → Option ℕ → List Y → Type 0
Puts {X} says old new from result said =
    MatchOption result (length old < from + length said)
    (λ to. (added : List X) × Grows old new from to added × (map says added ≡ said))

-- it has grown by what the certificate has, or there is too little room, or nothing is what it has
abbrev pub Fills : {X : Type 0} → (List X → Type 0) → List X → List X → ℕ → Filled → Type 0
Fills {X} Has old new from (To n) = (added : List X) × Grows old new from n added × Has added
Fills {X} Has old new from NoRoom = (xs : List X) → Has xs → length old < from + length xs
Fills {X} Has old new from Unreadable = (xs : List X) → Has xs → ⊥
