-- Whole runs of a search: the paths that it finds, one after the other (`Runs`).
use Rattle.std.specs.Prelude.{◌≡◌, ◌⊎◌, ℕ, List, [], ◌∷◌}
use Rattle.path_search.specs.Places.{Finds}
use Rattle.path_search.specs.declared.place.Place.{Place}

-- the paths that are found from one place to another
abbrev pub Runs : (List ℕ → Type 0) → Place → List ℕ → List (List ℕ) → Place → List ℕ → Type 0
Runs P p room [] q after = (p ≡ q) × (room ≡ after)
Runs P p room (found ∷ rest) q after =
    (mid : Place) × (between : List ℕ) × Finds P p room mid between found × Runs P mid between rest q after

-- a list has a chain
abbrev pub IsOneOf : List (List ℕ) → List ℕ → Type 0
IsOneOf [] c = ⊥
IsOneOf (d ∷ ds) c = (d ≡ c) ⊎ IsOneOf ds c

-- a list has each chain once
abbrev pub AreDistinct : List (List ℕ) → Type 0
AreDistinct [] = Unit {0}
AreDistinct (c ∷ cs) = (IsOneOf cs c → ⊥) × AreDistinct cs
