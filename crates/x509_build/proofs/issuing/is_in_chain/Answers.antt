use Rattle.std.proofs.Common.{arith}
use Rattle.x509_build.proofs.AnyLemmas.{found_here, none_at_all, none_first, none_more}
use Rattle.x509_build.specs.Pools.{IsAt}
use Rattle.x509_build.proofs.issuing.is_in_chain.Goals as goal

pub returns-then-is_at : goal.returns-then-is_at
returns-then-is_at c =
    found_here (IsAt c.args.pool.now c.args.certificate.now) c.args.chain.now c.loop-at.at _ c.loop-at-test.true (c.is_at.ensures.0 c.if-is_at.true)

pub loop-at-preserved : goal.loop-at-preserved
loop-at-preserved c = (
  none_more (IsAt c.args.pool.now c.args.certificate.now) c.args.chain.now c.loop-at.at _ c.loop-at-test.true
      (λ yes. let h = c.is_at.ensures.1 yes in let wrong = c.if-is_at.false in absurd (cc)) c.loop-at.invariant.0,
  omega (arith, c.loop-at-test.true),
)

pub loop-at-init : goal.loop-at-init
loop-at-init c = (none_first (IsAt c.args.pool.now c.args.certificate.now) c.args.chain.now, omega arith)

pub returns : goal.returns
returns c = none_at_all (IsAt c.args.pool.now c.args.certificate.now) c.args.chain.now c.loop-at.at (omega arith) c.loop-at.invariant.0
