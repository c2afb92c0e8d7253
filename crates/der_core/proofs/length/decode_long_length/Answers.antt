use Rattle.std.proofs.Common.{◌∙◌, arith}
use Rattle.std.proofs.lemmas.Result.{err_from_is_err_and}
use Rattle.der_core.proofs.StateLemmas.{byte_read, byte_refused, cut_refused, failed_on}
use Rattle.der_core.proofs.LengthReadLemmas.{digits_next, digits_fit, digits_whole, refused_far, refused_cut, refused_longer, found_long}
use Rattle.der_core.proofs.length.decode_long_length.Goals as goal

pub returns-then-first-gt132-clause-exact : goal.returns-then-first-gt132-clause-exact
returns-then-first-gt132-clause-exact g c reliable =
    refused_far (omega arith) (let reported = c.error.ensures.at_position in let kind = c.wrong_length.ensures in cc) c.error.ensures.failed

pub returns-in_err-octet-clause-exact : goal.returns-in_err-octet-clause-exact
returns-in_err-octet-clause-exact g c =
    let p = err_from_is_err_and c.from_residual.result c.from_residual.ensures.1 in
    rw (p.1, p.2) (λ reliable at here working.
    let so_far = c.loop-i.invariant in
    let refused = byte_refused (g.met.R.Reader.sound_state c.loop-i.reader) (c.in_err-octet.ensures.exact reliable) in
    refused_cut so_far (omega arith) (omega arith) (omega arith) (cut_refused (failed_on so_far.reads ∙ working) refused) at here)

pub overflow_mul-number : goal.overflow_mul-number
overflow_mul-number g c = omega (arith, digits_fit c.loop-i.invariant (omega arith))

pub overflow_add-number : goal.overflow_add-number
overflow_add-number g c = omega (arith, digits_fit c.loop-i.invariant (omega arith))

pub loop-i-preserved : goal.loop-i-preserved
loop-i-preserved g c = digits_next c.loop-i.invariant (byte_read c.in_ok-octet.ensures.exact) (omega arith)

pub returns-then-number-least_of-clause-exact : goal.returns-then-number-least_of-clause-exact
returns-then-number-least_of-clause-exact g c reliable =
    refused_longer (digits_whole c.loop-i.i c.args.first (omega arith) c.loop-i.invariant) (omega (arith, c.requires)) (omega arith) c.least_of.ensures c.if-number-least_of.true
    (let reported = c.error-then-number-least_of.ensures.at_position in let kind = c.wrong_length-then-number-least_of.ensures in cc) c.error-then-number-least_of.ensures.failed

pub returns-clause-ok : goal.returns-clause-ok
returns-clause-ok g c =
    found_long (digits_whole c.loop-i.i c.args.first (omega arith) c.loop-i.invariant) (omega (arith, c.requires)) c.least_of.ensures c.if-number-least_of.false (omega arith)
