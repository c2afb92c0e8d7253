use Rattle.std.proofs.Common.{ℕ, ◌+◌, ◌*◌, List, subst, arith}
use Rattle.std.proofs.lemmas.Result.{err_from_is_err_and}
use Rattle.schema_types.specs.Name.{IsNameFault}
use Rattle.schema_types.specs.Pool.{pool_in}
use Rattle.schema_types.specs.Schema.{no_name}
use Rattle.schema_types.proofs.sections.check_names.Goals as goal

pub returns-in_err-check-clause-fault : goal.returns-in_err-check-clause-fault
returns-in_err-check-clause-fault c =
    let p = err_from_is_err_and c.from_residual.result c.from_residual.ensures.1 in
    rw (p.1, p.2) (no_name c.loop-i.i (omega arith) (subst (λ (n : ℕ). IsNameFault (pool_in c.args.counts c.args.octets.now) c.args.octets.now (n + 16 * c.loop-i.i) c.in_err-check.field-0.0) c.names_at-start.ensures (subst (λ (p : List ℕ). IsNameFault p c.args.octets.now (c.names_at-start.result + 16 * c.loop-i.i) c.in_err-check.field-0.0) c.requires.pooled c.in_err-check.ensures.fault)))
