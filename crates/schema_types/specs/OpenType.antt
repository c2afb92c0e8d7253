-- Types that open types may be: a row of 12 octets.
use Rattle.std.specs.Prelude.{ℕ, ◌≡◌, ◌+◌, ◌*◌, ◌<◌, ◌≤◌, true, List, length}
use Rattle.std.specs.Ordering.{is_lt}
use Rattle.der_base.specs.Order.{byte_order}
use Rattle.schema_types.specs.Numbers.{number_at}
use Rattle.schema_types.specs.Counts.{opens_at}
use Rattle.schema_types.specs.Pool.{pool_in, octets_of}
use Rattle.schema_types.specs.Span.{span_at, IsWithin}
use Rattle.schema_types.specs.Fault.{fault_at}
use Rattle.schema_types.specs.declared.counts.Counts.{Counts}
use Rattle.schema_types.specs.declared.fault.Fault.{Fault}
use Rattle.schema_types.specs.declared.fault_kind.FaultKind.TheVariants.{Identifier, Node as NoNode, Order}
use Rattle.schema_types.specs.declared.open_type.OpenType.{OpenType}
use Rattle.schema_types.specs.declared.span.Span.{Span}

-- the type in the 12 octets from an offset on
abbrev pub open_type_at : List ℕ → ℕ → OpenType
open_type_at octets at =
    record { identifier = span_at octets at; node = number_at octets (at + 8) }

-- what such a type names is there
pub record IsOpenType (c : Counts) (pool : List ℕ) (o : OpenType) : Type 0 where
  pub identifier : IsWithin o.identifier (length pool)
  pub node : o.node < c.nodes

-- a row is such a type
abbrev pub IsOpenTypeRow : Counts → List ℕ → List ℕ → ℕ → Type 0
IsOpenTypeRow c pool octets at = IsOpenType c pool (open_type_at octets at)

-- why a row is none
pub data IsOpenTypeFault (c : Counts) (pool octets : List ℕ) (at : ℕ) : Fault → Type 0 where
  no_identifier : (IsWithin (span_at octets at) (length pool) → ⊥)
      → IsOpenTypeFault c pool octets at (fault_at Identifier at)
  no_type : c.nodes ≤ number_at octets (at + 8)
      → IsOpenTypeFault c pool octets at (fault_at NoNode (at + 8))

-- the contents octets of the OBJECT IDENTIFIER of the row with an index
abbrev pub identifier_in : Counts → List ℕ → ℕ → List ℕ
identifier_in c octets k =
    octets_of (pool_in c octets) (open_type_at octets (opens_at c + 12 * k)).identifier

-- the identifier of a row is before that of the next
abbrev pub IsBeforeNext : Counts → List ℕ → ℕ → Type 0
IsBeforeNext c octets k =
    is_lt (byte_order (identifier_in c octets k) (identifier_in c octets (k + 1))) ≡ true

-- the identifiers of a range of rows ascend in byte order
abbrev pub Ascends : Counts → List ℕ → Span → Type 0
Ascends c octets types =
    (k : ℕ) → types.start ≤ k → k + 1 < types.start + types.count → IsBeforeNext c octets k

-- why they do not
pub data IsOrderFault (c : Counts) (octets : List ℕ) (types : Span) : Fault → Type 0 where
  not_before : (k : ℕ) → types.start ≤ k → k + 1 < types.start + types.count
      → (IsBeforeNext c octets k → ⊥)
      → IsOrderFault c octets types (fault_at Order (opens_at c + 12 * (k + 1)))
