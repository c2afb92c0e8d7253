use Rattle.std.proofs.Common.{◌≡◌, ◌*◌, ◌+◌, ◌≤◌, ◌++◌, ℕ, List, length, map}
use Rattle.schema_read.specs.Known.{known_in}
use Rattle.schema_read.specs.Types.{types_in}
use Rattle.schema_write.specs.Components.{AreComponents, IsMember}
use Rattle.schema_write.specs.Same.{IsSame}
use Rattle.schema_write.proofs.ListLemmas.{Written}
use Rattle.schema_write.proofs.+written.Given as goal

abbrev pub decreases-value::value : goal.decreases-value::value
decreases-value::value l = 10 * l.depth

abbrev pub decreases-components::component : goal.decreases-components::component
decreases-components::component l = 10 * l.depth + 1

abbrev pub decreases-items::each : goal.decreases-items::each
decreases-items::each l = 10 * l.depth + 2

abbrev pub decreases-items::member : goal.decreases-items::member
decreases-items::member l = 10 * l.depth + 2

abbrev pub decreases-components::step : goal.decreases-components::step
decreases-components::step l = 10 * l.depth + 2

abbrev pub decreases-items::each_member : goal.decreases-items::each_member
decreases-items::each_member l = 10 * l.depth + 3

abbrev pub decreases-components::components : goal.decreases-components::components
decreases-components::components l = 10 * l.depth + 4

abbrev pub decreases-items::items : goal.decreases-items::items
decreases-items::items l = 10 * l.depth + 4

abbrev pub decreases-items::sorted_items : goal.decreases-items::sorted_items
decreases-items::sorted_items l = 10 * l.depth + 4

abbrev pub decreases-items::members : goal.decreases-items::members
decreases-items::members l = 10 * l.depth + 4

abbrev pub decreases-value::explicit : goal.decreases-value::explicit
decreases-value::explicit l = 10 * l.depth + 4

abbrev pub decreases-value::inside : goal.decreases-value::inside
decreases-value::inside l = 10 * l.depth + 5

abbrev pub decreases-value::node_value : goal.decreases-value::node_value
decreases-value::node_value l = 10 * l.depth + 6

abbrev pub decreases-value::selected_value : goal.decreases-value::selected_value
decreases-value::selected_value l = 10 * l.depth + 7

abbrev pub invariant-items::each-items : goal.invariant-items::each-items
invariant-items::each-items l = Written (IsSame (types_in l.schema.octets.now) l.depth (known_in l.known) l.node) l.contents l.rest (map (λ v. v.items) l.written.items)

abbrev pub decreases-items::each-items : goal.decreases-items::each-items
decreases-items::each-items l = length l.rest

abbrev pub invariant-items::each_member-members : goal.invariant-items::each_member-members
invariant-items::each_member-members l = Written (IsMember (IsSame (types_in l.schema.octets.now) l.depth) (types_in l.schema.octets.now) l.node) l.contents l.rest (map (λ v. v.items) l.written.items)

abbrev pub decreases-items::each_member-members : goal.decreases-items::each_member-members
decreases-items::each_member-members l = length l.rest

abbrev pub invariant-components::components-elements : goal.invariant-components::components-elements
invariant-components::components-elements l = record {
  start : l.node.parts.start ≤ l.passed.index;
  before : List ℕ;
  split : l.contents ≡ before ++ l.rest;
  are : AreComponents (IsSame (types_in l.schema.octets.now) l.depth) (types_in l.schema.octets.now) l.node l.passed.index (known_in l.passed.known) before l.out.items;
}

abbrev pub decreases-components::components-elements : goal.decreases-components::components-elements
decreases-components::components-elements l = length l.rest
