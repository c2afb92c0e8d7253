-- Whole runs of calls that search the next path: the chains that they find, one after the other
-- (`Runs`).
use Rattle.std.specs.Prelude.{◌≡◌, ℕ, List, [], ◌∷◌}
use Rattle.path_search.specs.declared.place.Place.{Place}
use Rattle.x509_build.specs.Builds.{Builds}

-- the chains that are found from one place of a search to another
abbrev pub Runs : (List ℕ → Type 0) → (List ℕ → Type 0) → (List ℕ → Type 0) → Place → List ℕ
    → List (List ℕ) → Place → List ℕ → Type 0
Runs P K R p room [] q after = (p ≡ q) × (room ≡ after)
Runs P K R p room (found ∷ rest) q after =
    (mid : Place) × (between : List ℕ) × Builds P K R p room mid between found
    × Runs P K R mid between rest q after
