-- Fields: a row of 28 octets.
use Rattle.std.specs.Prelude.{◌≡◌, ℕ, ◌+◌, ◌<◌, ◌≤◌, List, length, None, IsSome, unwrap_or}
use Rattle.schema_types.specs.Numbers.{number_at}
use Rattle.schema_types.specs.Span.{span_at, IsWithin}
use Rattle.schema_types.specs.Pool.{IsText}
use Rattle.schema_types.specs.Presence.{presence_at, default_room}
use Rattle.schema_types.specs.Fault.{fault_at}
use Rattle.schema_types.specs.declared.counts.Counts.{Counts}
use Rattle.schema_types.specs.declared.fault.Fault.{Fault}
use Rattle.schema_types.specs.declared.fault_kind.FaultKind.TheVariants.{Presence as NoPresence, Name as NoName, Node as NoNode, Default as NoDefault}
use Rattle.schema_types.specs.declared.field.Field.{Field}
use Rattle.schema_types.specs.declared.presence.Presence.TheVariants.{Required}

-- the field in the 28 octets from an offset on
abbrev pub field_at : List ℕ → ℕ → Field
field_at octets at = record {
  presence = unwrap_or (presence_at (number_at octets at)) Required;
  addition = number_at octets (at + 4);
  name = span_at octets (at + 8);
  node = number_at octets (at + 16);
  default = span_at octets (at + 20);
}

-- what a field names is there
pub record IsField (c : Counts) (pool : List ℕ) (f : Field) : Type 0 where
  pub name : IsText pool f.name
  pub node : f.node < c.nodes
  pub default : IsWithin f.default (default_room (length pool) f.presence)

-- a row is such a field
pub record IsFieldRow (c : Counts) (pool octets : List ℕ) (at : ℕ) : Type 0 where
  pub presence : IsSome (presence_at (number_at octets at))
  pub fits : IsField c pool (field_at octets at)

-- why a row is none
pub data IsFieldFault (c : Counts) (pool octets : List ℕ) (at : ℕ) : Fault → Type 0 where
  unknown_presence : presence_at (number_at octets at) ≡ None
      → IsFieldFault c pool octets at (fault_at NoPresence at)
  no_field_name : (IsText pool (field_at octets at).name → ⊥)
      → IsFieldFault c pool octets at (fault_at NoName (at + 8))
  no_field_node : c.nodes ≤ (field_at octets at).node
      → IsFieldFault c pool octets at (fault_at NoNode (at + 16))
  no_default : (IsWithin (field_at octets at).default (default_room (length pool) (field_at octets at).presence) → ⊥)
      → IsFieldFault c pool octets at (fault_at NoDefault (at + 20))
