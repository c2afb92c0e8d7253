use Rattle.std.proofs.Common.{refl, arith}
use Rattle.der_c_core.specs.ErrorText.{no_space, written}
use Rattle.der_c_core.proofs.EndLemmas.{text_ended}
use Rattle.der_c_core.proofs.text.der_error_text.Goals as goal

pub returns-then-capacity-eq0 : goal.returns-then-capacity-eq0
returns-then-capacity-eq0 c = no_space c.if-capacity-eq0.true refl refl

pub returns : goal.returns
returns c =
    let w = c.write_text-count in
    written (omega (arith, c.if-capacity-eq0.false)) (text_ended c.args.text.now w.new.text w.result (omega (arith, c.if-capacity-eq0.false)) w.ensures.size w.ensures.fits w.ensures.written)
