use Rattle.std.proofs.Common.{◌≡◌, subst, below_more, arith}
use Rattle.std.proofs.lemmas.Result.{err_from_is_err_and}
use Rattle.schema_types.specs.OpenType.{IsOrderFault}
use Rattle.schema_types.specs.Table.{IsAscending}
use Rattle.schema_types.specs.Schema.{no_order}
use Rattle.schema_types.specs.declared.node.Node.{Node}
use Rattle.schema_types.specs.declared.node_kind.NodeKind.TheVariants.{Open}
use Rattle.schema_types.proofs.order.check_order.Goals as goal

pub returns-in_err-check_node-clause-fault : goal.returns-in_err-check_node-clause-fault
returns-in_err-check_node-clause-fault c =
    let p = err_from_is_err_and c.from_residual.result c.from_residual.ensures.1 in
    let fault = subst (λ (n : Node). (n.kind ≡ Open) × IsOrderFault c.args.counts c.args.octets.now n.parts c.in_err-check_node.field-0.0) c.read-node.ensures c.in_err-check_node.ensures.fault in
    rw (p.1, p.2) (no_order c.loop-i.i (omega arith) fault.0 fault.1)

pub loop-i-preserved : goal.loop-i-preserved
loop-i-preserved c =
    below_more _ _ c.loop-i.invariant (subst (λ (n : Node). IsAscending c.args.counts c.args.octets.now n) c.read-node.ensures c.in_ok-check_node.ensures.ok)
