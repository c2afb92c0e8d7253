use Rattle.std.proofs.Common.{ℕ, ◌+◌, ◌*◌, List, subst, below_more, arith}
use Rattle.std.proofs.lemmas.Result.{err_from_is_err_and}
use Rattle.schema_types.specs.Node.{IsNodeFault}
use Rattle.schema_types.specs.Schema.{no_node}
use Rattle.schema_types.proofs.sections.check_nodes.Goals as goal

pub returns-in_err-check-clause-fault : goal.returns-in_err-check-clause-fault
returns-in_err-check-clause-fault c =
    let p = err_from_is_err_and c.from_residual.result c.from_residual.ensures.1 in
    rw (p.1, p.2) (no_node c.loop-i.i (omega arith) (subst (λ (p : List ℕ). IsNodeFault c.args.counts p c.args.octets.now (32 + 40 * c.loop-i.i) c.in_err-check.field-0.0) c.requires.pooled c.in_err-check.ensures.fault))

pub loop-i-preserved : goal.loop-i-preserved
loop-i-preserved c = below_more _ _ c.loop-i.invariant c.in_ok-check.ensures.ok
