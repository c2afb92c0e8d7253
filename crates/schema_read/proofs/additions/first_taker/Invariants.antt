use Rattle.std.proofs.Common.{◌≤◌}
use Rattle.schema_read.specs.Components.{MayBePassed}
use Rattle.schema_read.specs.Types.{types_in}
use Rattle.schema_read.proofs.additions.first_taker.Given as goal

abbrev pub invariant-fields : goal.invariant-fields
invariant-fields l = record {
  low : l.node.parts.start ≤ l.first;
  high : l.first ≤ l.index;
  absent : MayBePassed (types_in l.schema.octets.now) l.node l.first l.index;
}

abbrev pub decreases-fields : goal.decreases-fields
decreases-fields l = l.first
