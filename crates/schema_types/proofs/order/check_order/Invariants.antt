use Rattle.schema_types.specs.Counts.{nodes_at}
use Rattle.schema_types.specs.Node.{node_at}
use Rattle.schema_types.specs.Table.{EachRow, IsAscending}
use Rattle.schema_types.proofs.order.check_order.Given as goal

abbrev pub invariant-loop-i : goal.invariant-loop-i
invariant-loop-i l = EachRow (λ at. IsAscending l.counts l.octets (node_at l.octets at)) 40 nodes_at l.i
