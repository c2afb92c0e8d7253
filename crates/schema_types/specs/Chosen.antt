-- Which type an OBJECT IDENTIFIER chooses among those of an open type.
use Rattle.std.specs.Prelude.{◌≡◌, ◌≢◌, ℕ, ◌+◌, ◌*◌, ◌<◌, ◌≤◌, List, slice_get, Some}
use Rattle.schema_types.specs.Counts.{opens_at}
use Rattle.schema_types.specs.OpenType.{open_type_at, identifier_in}
use Rattle.schema_types.specs.Pool.{octets_of}
use Rattle.schema_types.specs.Table.{Table}
use Rattle.schema_types.specs.Tags.{IsPart}
use Rattle.schema_types.specs.declared.counts.Counts.{Counts}
use Rattle.schema_types.specs.declared.open_type.OpenType.{OpenType}
use Rattle.schema_types.specs.declared.span.Span.{Span}

-- an identifier chooses a row of a range
pub record IsChosen (c : Counts) (octets : List ℕ) (types : Span) (identifier : List ℕ) (o : OpenType) : Type 0 where
  pub index : ℕ
  pub first : types.start ≤ index
  pub last : index < types.start + types.count
  pub row : o ≡ open_type_at octets (opens_at c + 12 * index)
  pub same : identifier_in c octets index ≡ identifier

-- it chooses none
abbrev pub ChoosesNone : Counts → List ℕ → Span → List ℕ → Type 0
ChoosesNone c octets types identifier =
    (k : ℕ) → types.start ≤ k → k < types.start + types.count → identifier_in c octets k ≢ identifier

-- the same over a table: an identifier chooses a row of a range
pub record ChoosesRow (t : Table) (types : Span) (identifier : List ℕ) (o : OpenType) : Type 0 where
  pub index : ℕ
  pub part : IsPart types index
  pub row : slice_get t.opens index ≡ Some o
  pub same : octets_of t.pool o.identifier ≡ identifier

-- it chooses none
abbrev pub ChoosesNoRow : Table → Span → List ℕ → Type 0
ChoosesNoRow t types identifier =
    (k : ℕ) (o : OpenType) → IsPart types k → slice_get t.opens k ≡ Some o
    → octets_of t.pool o.identifier ≢ identifier
