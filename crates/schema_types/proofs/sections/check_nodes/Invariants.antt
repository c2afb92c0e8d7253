use Rattle.schema_types.specs.Counts.{nodes_at}
use Rattle.schema_types.specs.Node.{IsNodeRow}
use Rattle.schema_types.specs.Table.{EachRow}
use Rattle.schema_types.proofs.sections.check_nodes.Given as goal

abbrev pub invariant-loop-i : goal.invariant-loop-i
invariant-loop-i l = EachRow (IsNodeRow l.counts l.pool l.octets) 40 nodes_at l.i
