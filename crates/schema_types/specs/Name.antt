-- Names of numbers: a row of 16 octets.
use Rattle.std.specs.Prelude.{ℕ, ◌+◌, List}
use Rattle.schema_types.specs.Numbers.{signed_at}
use Rattle.schema_types.specs.Span.{span_at}
use Rattle.schema_types.specs.Pool.{IsText}
use Rattle.schema_types.specs.Fault.{fault_at}
use Rattle.schema_types.specs.declared.fault.Fault.{Fault}
use Rattle.schema_types.specs.declared.fault_kind.FaultKind.TheVariants.{Name as NoName}
use Rattle.schema_types.specs.declared.name.Name.{Name}

-- the name in the 16 octets from an offset on
abbrev pub name_at : List ℕ → ℕ → Name
name_at octets at = record { number = signed_at octets at; name = span_at octets (at + 8) }

-- a name is a text of the pool
abbrev pub IsName : List ℕ → Name → Type 0
IsName pool n = IsText pool n.name

-- a row is such a name
abbrev pub IsNameRow : List ℕ → List ℕ → ℕ → Type 0
IsNameRow pool octets at = IsName pool (name_at octets at)

-- why a row is none
pub data IsNameFault (pool octets : List ℕ) (at : ℕ) : Fault → Type 0 where
  no_name : (IsText pool (span_at octets (at + 8)) → ⊥)
      → IsNameFault pool octets at (fault_at NoName (at + 8))
