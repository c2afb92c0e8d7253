use Rattle.std.proofs.Common.{◌≡◌, ◌-◌, length, refl, subst, arith}
use Rattle.std.proofs.lemmas.Result.{err_from_is_err_and}
use Rattle.ber.proofs.BodyLemmas.{IsWalk, walk_step, walk_end, walk_never, walk_fault}
use Rattle.ber.proofs.body.body_len.Goals as goal

pub step-requires-clause-small : goal.step-requires-clause-small
step-requires-clause-small c = omega (arith, c.headers.invariant.room)

pub returns-in_err-after-clause-none : goal.returns-in_err-after-clause-none
returns-in_err-after-clause-none c =
    let p = err_from_is_err_and c.from_residual.result c.from_residual.ensures.1 in
    rw p.1 (walk_never c.headers.invariant c.in_err-after.ensures.none)

pub headers-preserved : goal.headers-preserved
headers-preserved c = walk_step c.headers.invariant c.in_ok-after.ensures.found

pub returns-clause-found : goal.returns-clause-found
returns-clause-found c =
    let left : c.headers.depth ≡ 0 = omega (arith, c.headers-test.false) in
    walk_end c.args.octets.now c.headers.rest.now (subst (λ k. IsWalk c.args.octets.now c.headers.rest.now k) left c.headers.invariant)

pub returns-in_err-after-clause-fault : goal.returns-in_err-after-clause-fault
returns-in_err-after-clause-fault c =
    let p = err_from_is_err_and c.from_residual.result c.from_residual.ensures.1 in
    rw (p.1, p.2) (walk_fault (length c.args.octets.now - length c.headers.rest.now) c.headers.invariant c.headers-test.true refl c.in_err-after.ensures.fault)
