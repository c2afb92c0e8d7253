use Rattle.std.proofs.lemmas.Result.{err_from_is_err_and}
use Rattle.der_core.proofs.StateLemmas.{byte_working, byte_read, byte_refused, same_trans}
use Rattle.der_core.proofs.TagReadLemmas.{tag_ends, tag_found, failed_after_first}
use Rattle.der_core.proofs.DecodeLemmas.{decoded_ok, decoded_err}
use Rattle.der_core.proofs.identifier.Identifier.decode.Goals as goal

pub returns-in_err-first : goal.returns-in_err-first
returns-in_err-first g c =
    let p = err_from_is_err_and c.from_residual.result c.from_residual.ensures.1 in
    rw (p.1, p.2) (decoded_err c.in_err-first.ensures.same
    (λ reliable. tag_ends (byte_refused (g.met.R.Reader.sound_state c.args.reader.now) (c.in_err-first.ensures.exact reliable))))

pub returns-in_err-number : goal.returns-in_err-number
returns-in_err-number g c =
    let p = err_from_is_err_and c.from_residual-in_err-number.result c.from_residual-in_err-number.ensures.1 in
    rw (p.1, p.2) (decoded_err (same_trans c.in_ok-first.ensures.same c.in_err-number.ensures.same)
    (λ reliable. failed_after_first (byte_working _ _ _ c.in_ok-first.ensures.exact) (byte_read c.in_ok-first.ensures.exact) (c.in_err-number.ensures.exact reliable)))

pub returns : goal.returns
returns g c =
    decoded_ok (same_trans c.in_ok-first.ensures.same c.in_ok-number.ensures.same)
    (tag_found (byte_working _ _ _ c.in_ok-first.ensures.exact) (byte_read c.in_ok-first.ensures.exact) c.in_ok-number.ensures.ok)
