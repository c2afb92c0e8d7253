-- The next item of a walk over a list (`GivesItem`).
use Rattle.std.specs.Prelude.{◌≡◌, ℕ, List, [], Option, Some, None}
use Rattle.der.specs.Prelude.{ReaderState, Reads, rest_of}

-- the next item is valid and its encoding is passed; or there is none, and nothing is passed
abbrev pub GivesItem : {A : Type 0} → (A → Type 0) → (A → List ℕ) → ReaderState → Option A
    → ReaderState → Type 0
GivesItem valid encoding s (Some v) t = valid v × Reads s t (encoding v)
GivesItem valid encoding s None t = (rest_of s ≡ []) × (t ≡ s)
