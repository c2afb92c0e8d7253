-- Nodes: a row of 40 octets (`node_at`), and a node that is well-formed (`IsNode`).
use Rattle.std.specs.Prelude.{◌≡◌, ℕ, ◌+◌, ◌/◌, ◌%◌, ◌<◌, ◌≤◌, nat_eq, not, Bool, true, List, slice_index, Option, Some, None, IsSome, unwrap_or, if◌then◌else◌}
use Rattle.der_base.specs.declared.tag.class.Class.{Class}
use Rattle.der_base.specs.declared.tag.class.Class.TheVariants.{Universal, Application, ContextSpecific, Private}
use Rattle.schema_types.specs.Numbers.{number_at}
use Rattle.schema_types.specs.NodeKind.{kind_at, parts_room, chooser_room, insertion_in, needs_inner, allows_inner, is_choice}
use Rattle.schema_types.specs.Span.{span_at, IsWithin}
use Rattle.schema_types.specs.Pool.{IsText}
use Rattle.schema_types.specs.Fault.{fault_at}
use Rattle.schema_types.specs.declared.fault.Fault.{Fault}
use Rattle.schema_types.specs.declared.fault_kind.FaultKind.TheVariants.{Kind as NoKind, Class as NoClass, Flag as NoFlag, Name as NoName, Inner as NoInner, Parts as NoParts, Limits as NoLimits, Chooser as NoChooser}
use Rattle.schema_types.specs.declared.counts.Counts.{Counts}
use Rattle.schema_types.specs.declared.node.Node.{Node}
use Rattle.schema_types.specs.declared.node_kind.NodeKind.{NodeKind}
use Rattle.schema_types.specs.declared.node_kind.NodeKind.TheVariants.{Any}

-- the class in the two highest bits of an octet (X.690 8.1.2.2)
abbrev pub class_at : ℕ → Class
class_at o =
    if nat_eq (o / 64) 0 then Universal
    else if nat_eq (o / 64) 1 then Application
    else if nat_eq (o / 64) 2 then ContextSpecific
    else Private

abbrev pub flag_at : ℕ → Bool
flag_at o = not (nat_eq o 0)

abbrev pub inner_at : ℕ → ℕ → Option ℕ
inner_at o node = if nat_eq o 0 then None else Some node

-- the node in the 40 octets from an offset on
abbrev pub node_at : List ℕ → ℕ → Node
node_at octets at = record {
  kind = unwrap_or (kind_at (slice_index octets at)) Any;
  class = class_at (slice_index octets (at + 1));
  extensible = flag_at (slice_index octets (at + 2));
  inner = inner_at (slice_index octets (at + 3)) (number_at octets (at + 16));
  number = number_at octets (at + 4);
  name = span_at octets (at + 8);
  parts = span_at octets (at + 20);
  limits = span_at octets (at + 28);
  chooser = number_at octets (at + 36);
}

-- a node inside a node of this kind is there if the kind needs one, and is one of so many and only
-- there if the kind allows one
abbrev pub IsInner : NodeKind → Option ℕ → ℕ → Type 0
IsInner kind inner nodes =
    (needs_inner kind ≡ true → IsSome inner)
    × ((node : ℕ) → inner ≡ Some node → (allows_inner kind ≡ true) × (node < nodes))

-- how many numbers there are of which the chooser of a node may be
abbrev pub room_of : Counts → Node → ℕ
room_of c n = chooser_room c n.kind n.extensible n.parts.count

-- what a node names is there
pub record IsNode (c : Counts) (pool : List ℕ) (n : Node) : Type 0 where
  pub name : IsText pool n.name
  pub inner : IsInner n.kind n.inner c.nodes
  pub parts : IsWithin n.parts (parts_room c n.kind)
  pub alternative : is_choice n.kind ≡ true → 1 ≤ n.parts.count
  pub limits : IsWithin n.limits c.limits
  pub chooser : n.chooser < room_of c n

-- how many of its fields come before its extension insertion point, if it has one
abbrev pub insertion_of : Node → Option ℕ
insertion_of n = insertion_in n.kind n.extensible n.chooser

-- a row is such a node
pub record IsNodeRow (c : Counts) (pool octets : List ℕ) (at : ℕ) : Type 0 where
  pub kind : IsSome (kind_at (slice_index octets at))
  pub class : slice_index octets (at + 1) % 64 ≡ 0
  pub extensible : slice_index octets (at + 2) < 2
  pub inner : slice_index octets (at + 3) < 2
  pub fits : IsNode c pool (node_at octets at)

-- why a row is none
pub data IsNodeFault (c : Counts) (pool octets : List ℕ) (at : ℕ) : Fault → Type 0 where
  unknown_kind : kind_at (slice_index octets at) ≡ None
      → IsNodeFault c pool octets at (fault_at NoKind at)
  no_class : (slice_index octets (at + 1) % 64 ≡ 0 → ⊥)
      → IsNodeFault c pool octets at (fault_at NoClass (at + 1))
  no_flag : 2 ≤ slice_index octets (at + 2) → IsNodeFault c pool octets at (fault_at NoFlag (at + 2))
  no_inner_flag : 2 ≤ slice_index octets (at + 3)
      → IsNodeFault c pool octets at (fault_at NoFlag (at + 3))
  no_node_name : (IsText pool (node_at octets at).name → ⊥)
      → IsNodeFault c pool octets at (fault_at NoName (at + 8))
  no_inner : (IsInner (node_at octets at).kind (node_at octets at).inner c.nodes → ⊥)
      → IsNodeFault c pool octets at (fault_at NoInner (at + 16))
  no_parts : (IsWithin (node_at octets at).parts (parts_room c (node_at octets at).kind) → ⊥)
      → IsNodeFault c pool octets at (fault_at NoParts (at + 20))
  no_alternative : is_choice (node_at octets at).kind ≡ true → (node_at octets at).parts.count < 1
      → IsNodeFault c pool octets at (fault_at NoParts (at + 20))
  no_limits : (IsWithin (node_at octets at).limits c.limits → ⊥)
      → IsNodeFault c pool octets at (fault_at NoLimits (at + 28))
  no_chooser : room_of c (node_at octets at) ≤ (node_at octets at).chooser
      → IsNodeFault c pool octets at (fault_at NoChooser (at + 36))
