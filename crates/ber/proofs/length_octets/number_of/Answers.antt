use Rattle.std.proofs.Common.{sym, ◌∙◌, ap, ◌+◌, ◌*◌, get_or}
use Rattle.std.proofs.lemmas.Int.Digits.{number_more}
use Rattle.ber.proofs.LengthLemmas.{number_too_large}
use Rattle.ber.proofs.length_octets.number_of.Goals as goal

pub returns-then-number-clause-none : goal.returns-then-number-clause-none
returns-then-number-clause-none c = number_too_large c.args.digits.now c.loop-digit.digit-index c.loop-digit.number c.loop-digit-test.true c.loop-digit.invariant c.if-number.true

pub loop-digit-preserved : goal.loop-digit-preserved
loop-digit-preserved c = ap (λ n. n * 256 + get_or c.args.digits.now c.loop-digit.digit-index 0) c.loop-digit.invariant ∙ sym (number_more 256 c.args.digits.now c.loop-digit.digit-index c.loop-digit-test.true)
