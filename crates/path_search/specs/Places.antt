-- What a search has not passed yet (`IsLeft`). It takes chains by their length, and chains of one
-- length in the order of their candidates.
use Rattle.std.specs.Prelude.{◌≡◌, ◌↔◌, ◌⊎◌, ◌<◌, ◌≤◌, ℕ, List, [], ◌∷◌, length, take}
use Rattle.path_search.specs.declared.place.Place.{Place}
use Rattle.path_search.specs.declared.search.Search.{Search}
use Rattle.path_search.specs.declared.step.Step.{Step}
use Rattle.path_search.specs.declared.step.Step.TheVariants.{Path, Ended, StepsUsed, NoRoom}
use Rattle.path_search.specs.declared.turn.Turn.{Turn}
use Rattle.path_search.specs.declared.turn.Turn.TheVariants.{Found, On}

-- a chain begins with these candidates and has this one at least after them, or it has a larger one
-- where it first differs from them
abbrev pub IsAhead : List ℕ → ℕ → List ℕ → Type 0
IsAhead [] next [] = Unit {0}
IsAhead [] next (c ∷ cs) = next ≤ c
IsAhead (p ∷ ps) next [] = ⊥
IsAhead (p ∷ ps) next (c ∷ cs) = (p < c) ⊎ ((p ≡ c) × IsAhead ps next cs)

-- a chain is left: it is longer than those that are searched now, or as long and ahead
abbrev pub IsLeft : Place → List ℕ → List ℕ → Type 0
IsLeft p room chain =
    (p.level < length chain) ⊎ ((length chain ≡ p.level) × IsAhead (take p.length room) p.next chain)

-- the paths that are left at a place are those that were left at another
abbrev pub LeavesAll : (List ℕ → Type 0) → Place → List ℕ → Place → List ℕ → Type 0
LeavesAll P p room q after = (chain : List ℕ) → P chain → IsLeft p room chain ↔ IsLeft q after chain

-- a path is found: it was left before and is not left, and all others are left as before. It is one
-- of the shortest that were left
pub record Finds (P : List ℕ → Type 0) (p : Place) (room : List ℕ) (q : Place) (after : List ℕ)
    (found : List ℕ) : Type 0 where
  pub path : P found
  pub left : IsLeft p room found
  pub passed : IsLeft q after found → ⊥
  pub others : (chain : List ℕ) → P chain
      → IsLeft p room chain ↔ ((chain ≡ found) ⊎ IsLeft q after chain)
  pub shortest : (chain : List ℕ) → P chain → IsLeft p room chain → length found ≤ length chain

-- a turn finds a path, or leaves all
abbrev pub IsTurn : Turn → (List ℕ → Type 0) → Place → List ℕ → List ℕ → Type 0
IsTurn (Found q) P p room after = Finds P p room q after (take p.length after)
IsTurn (On q) P p room after = LeavesAll P p room q after

-- where the search goes on, if it does not end with a path
abbrev pub IfOn : Turn → (Place → Type 0) → Type 0
IfOn (Found q) P = Unit {0}
IfOn (On q) P = P q

-- what the answer of a call means: a path is found, none was left, all that were left are left, or
-- nothing has changed
abbrev pub IsStep : Step → (List ℕ → Type 0) → Search → List ℕ → Search → List ℕ → Type 0
IsStep (Path n) P s room t after = Finds P s.place room t.place after (take n after)
IsStep Ended P s room t after = (chain : List ℕ) → P chain → IsLeft s.place room chain → ⊥
IsStep StepsUsed P s room t after = LeavesAll P s.place room t.place after × (t.steps ≡ 0)
IsStep NoRoom P s room t after = (t ≡ s) × (after ≡ room) × (length room < s.depth)

-- a path fits into the room, as all within the depth do, and takes a step at least
abbrev pub IsCounted : Step → List ℕ → Search → Search → Type 0
IsCounted (Path n) room s t = (n ≤ length room) × (s.depth ≤ length room) × (t.steps < s.steps)
IsCounted Ended room s t = t.steps ≤ s.steps
IsCounted StepsUsed room s t = t.steps ≤ s.steps
IsCounted NoRoom room s t = t.steps ≤ s.steps
