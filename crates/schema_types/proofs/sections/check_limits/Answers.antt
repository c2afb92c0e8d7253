use Rattle.std.proofs.Common.{ℕ, ◌+◌, ◌*◌, subst, arith}
use Rattle.std.proofs.lemmas.Result.{err_from_is_err_and}
use Rattle.schema_types.specs.Limit.{IsLimitFault}
use Rattle.schema_types.specs.Schema.{no_limit}
use Rattle.schema_types.proofs.sections.check_limits.Goals as goal

pub returns-in_err-check-clause-fault : goal.returns-in_err-check-clause-fault
returns-in_err-check-clause-fault c =
    let p = err_from_is_err_and c.from_residual.result c.from_residual.ensures.1 in
    rw (p.1, p.2) (no_limit c.loop-i.i (omega arith) (subst (λ (n : ℕ). IsLimitFault c.args.octets.now (n + 20 * c.loop-i.i) c.in_err-check.field-0.0) c.limits_at-start.ensures c.in_err-check.ensures.fault))
