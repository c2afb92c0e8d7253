-- Which numbers the limits of a node allow (X.680 51).
use Rattle.std.specs.Prelude.{◌≡◌, ℕ, ℤ, ◌≤ℤ◌, slice_get, Some}
use Rattle.schema_types.specs.Table.{Table}
use Rattle.schema_types.specs.Tags.{IsPart}
use Rattle.schema_types.specs.declared.limit.Limit.{Limit}
use Rattle.schema_types.specs.declared.limit_kind.LimitKind.{LimitKind}
use Rattle.schema_types.specs.declared.span.Span.{Span}

-- a limit is one of a range, of this kind
pub record IsLimitOf (t : Table) (limits : Span) (kind : LimitKind) (k : ℕ) (l : Limit)
    : Type 0 where
  pub part : IsPart limits k
  pub row : slice_get t.limits k ≡ Some l
  pub kind_is : l.kind ≡ kind

-- a number is one of a limit
pub record IsBetween (l : Limit) (number : ℤ) : Type 0 where
  pub low : l.low ≤ℤ number
  pub high : number ≤ℤ l.high

-- a number is one of a limit of this kind, or there is no limit of this kind
pub data IsAllowed (t : Table) (limits : Span) (kind : LimitKind) (number : ℤ) : Type 0 where
  limited : (k : ℕ) (l : Limit) → IsLimitOf t limits kind k l → IsBetween l number
      → IsAllowed t limits kind number
  unlimited : ((k : ℕ) (l : Limit) → IsLimitOf t limits kind k l → ⊥)
      → IsAllowed t limits kind number
