use Rattle.x509_path.proofs.SignedLemmas.{all_true, false_at}
use Rattle.x509_path.proofs.if_signed.first_false.Goals as goal

pub returns-then-not-verdict : goal.returns-then-not-verdict
returns-then-not-verdict c = false_at c.args.verdicts.now c.loop-at.at _ c.loop-at-test.true c.loop-at.invariant c.if-not-verdict.true

pub returns : goal.returns
returns c = all_true c.args.verdicts.now c.loop-at.at c.loop-at-test.false c.loop-at.invariant
