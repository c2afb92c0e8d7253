use Rattle.std.proofs.Common.{below_more, arith}
use Rattle.schema_types.proofs.RowLemmas.{node_there}
use Rattle.schema_types.proofs.nesting.check_nesting.Goals as goal

pub loop-i-preserved : goal.loop-i-preserved
loop-i-preserved c = below_more _ _ c.loop-i.invariant c.in_ok-check_node.ensures.ok

pub returns-clause-ok : goal.returns-clause-ok
returns-clause-ok c i k f nested =
    let there = node_there c.args.rows.now.octets.now i c.args.rows.now.counted nested.row in
    c.loop-i.invariant i (omega arith) k f nested
