use Rattle.std.proofs.Common.{◌≡◌, ◌*◌, ◌+◌, ◌-◌, ◌≤◌, ℕ, [], None, length}
use Rattle.schema_read.specs.Seen.{fields_of}
use Rattle.schema_read.specs.Types.{types_in}
use Rattle.schema_read.specs.Constraints.{IsAllowedSize}
use Rattle.schema_read.specs.Known.{known_in}
use Rattle.schema_read.specs.Members.{SomeMembers}
use Rattle.schema_read.specs.Components.{AreComponents, AreFrom}
use Rattle.schema_read.specs.Items.{SomeItems}
use Rattle.schema_read.specs.Value.{IsValue, IsAny}
use Rattle.schema_read.specs.Reading.{Body, Status, Logs}
use Rattle.schema_read.proofs.ItemLemmas.{Items}
use Rattle.schema_read.proofs.+typed.Given as goal

abbrev pub decreases-typed::value : goal.decreases-typed::value
decreases-typed::value l = 7 * l.depth

abbrev pub decreases-components::field_value : goal.decreases-components::field_value
decreases-components::field_value l = 7 * l.depth + 1

abbrev pub decreases-components::component : goal.decreases-components::component
decreases-components::component l = 7 * l.depth + 2

abbrev pub decreases-components::components : goal.decreases-components::components
decreases-components::components l = 7 * l.depth + 3

abbrev pub decreases-components::items : goal.decreases-components::items
decreases-components::items l = 7 * l.depth + 2

abbrev pub decreases-components::explicit : goal.decreases-components::explicit
decreases-components::explicit l = 7 * l.depth + 2

abbrev pub decreases-typed::contents : goal.decreases-typed::contents
decreases-typed::contents l = 7 * l.depth + 5

abbrev pub decreases-typed::selected_value : goal.decreases-typed::selected_value
decreases-typed::selected_value l = 7 * l.depth + 6

abbrev pub decreases-typed::of_type : goal.decreases-typed::of_type
decreases-typed::of_type l = 7 * l.depth + 4

abbrev pub decreases-typed::contained : goal.decreases-typed::contained
decreases-typed::contained l = 7 * l.depth + 3

abbrev pub decreases-typed::contained_value : goal.decreases-typed::contained_value
decreases-typed::contained_value l = 7 * l.depth + 2

abbrev pub decreases-members::member : goal.decreases-members::member
decreases-members::member l = 7 * l.depth + 2

abbrev pub decreases-members::members : goal.decreases-members::members
decreases-members::members l = 7 * l.depth + 3

abbrev pub invariant-components::components-fields : goal.invariant-components::components-fields
invariant-components::components-fields l = record {
  status : (left : ℕ) → l.index + left ≡ l.node.parts.start + l.node.parts.count → Status l.verdict
      (λ rules. Body l.opened.marked l.opened.beyond.now (AreComponents (IsValue (types_in l.schema.octets.now) l.depth) (IsAny l.depth) rules (types_in l.schema.octets.now) l.node left l.index (known_in l.known)) l.rest)
      (λ rules. Body l.opened.marked l.opened.beyond.now (AreFrom (IsValue (types_in l.schema.octets.now) l.depth) (IsAny l.depth) rules (types_in l.schema.octets.now) l.node l.node.parts.count l.node.parts.start None) l.opened.inside.octets.now);
  low : l.node.parts.start ≤ l.index;
  high : l.index ≤ l.node.parts.start + l.node.parts.count;
  log : Logs l.verdict l.fn.notes l.notes;
  end : l.notes.end ≡ l.fn.notes.end;
  shorter : length l.rest ≤ length l.opened.inside.octets.now;
}

abbrev pub decreases-components::components-fields : goal.decreases-components::components-fields
decreases-components::components-fields l = l.end - l.index

abbrev pub invariant-components::items-items : goal.invariant-components::items-items
invariant-components::items-items l = record {
  status : Status l.verdict
      (λ rules. Body l.opened.marked l.opened.beyond.now (Items l.sorted rules (IsValue (types_in l.schema.octets.now) l.depth rules (known_in l.known) l.item) (λ n. IsAllowedSize (types_in l.schema.octets.now) l.node.limits (l.count + n)) l.before) l.rest)
      (λ rules. Body l.opened.marked l.opened.beyond.now (SomeItems l.sorted rules (IsValue (types_in l.schema.octets.now) l.depth rules (known_in l.known) l.item) (IsAllowedSize (types_in l.schema.octets.now) l.node.limits)) l.opened.inside.octets.now);
  log : Logs l.verdict l.fn.notes l.notes;
  end : l.notes.end ≡ l.fn.notes.end;
  few : l.count + length l.rest ≤ length l.opened.inside.octets.now;
}

abbrev pub decreases-components::items-items : goal.decreases-components::items-items
decreases-components::items-items l = length l.rest

abbrev pub invariant-members::members-members : goal.invariant-members::members-members
invariant-members::members-members l = record {
  status : Status l.verdict
      (λ rules. Body l.opened.marked l.opened.beyond.now (SomeMembers (IsValue (types_in l.schema.octets.now) l.depth) (IsAny l.depth) rules (types_in l.schema.octets.now) l.node (fields_of l.seen) l.before) l.rest)
      (λ rules. Body l.opened.marked l.opened.beyond.now (SomeMembers (IsValue (types_in l.schema.octets.now) l.depth) (IsAny l.depth) rules (types_in l.schema.octets.now) l.node [] []) l.opened.inside.octets.now);
  log : Logs l.verdict l.fn.notes l.notes;
  end : l.notes.end ≡ l.fn.notes.end;
  shorter : length l.rest ≤ length l.opened.inside.octets.now;
}

abbrev pub decreases-members::members-members : goal.decreases-members::members-members
decreases-members::members-members l = length l.rest
