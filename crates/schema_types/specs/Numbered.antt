-- Which name a number has among a range of names.
use Rattle.std.specs.Prelude.{◌≡◌, ◌≢◌, ℕ, ℤ, ◌+◌, ◌<◌, ◌≤◌, slice_get, Some}
use Rattle.schema_types.specs.Table.{Table}
use Rattle.schema_types.specs.Tags.{IsPart}
use Rattle.schema_types.specs.declared.name.Name.{Name}
use Rattle.schema_types.specs.declared.span.Span.{Span}

-- no name from one row on, before another, is of the number
abbrev pub AreOfOthers : Table → ℕ → ℕ → ℤ → Type 0
AreOfOthers t start end number =
    (k : ℕ) (n : Name) → start ≤ k → k < end → slice_get t.names k ≡ Some n → n.number ≢ number

-- a name is the first of a range that is of the number
pub record IsFirstNamed (t : Table) (names : Span) (number : ℤ) (n : Name) : Type 0 where
  pub index : ℕ
  pub part : IsPart names index
  pub row : slice_get t.names index ≡ Some n
  pub same : n.number ≡ number
  pub first : AreOfOthers t names.start index number

-- none is
abbrev pub NoneHasNumber : Table → Span → ℤ → Type 0
NoneHasNumber t names number = AreOfOthers t names.start (names.start + names.count) number
