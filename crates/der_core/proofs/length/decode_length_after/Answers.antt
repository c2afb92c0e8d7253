use Rattle.std.proofs.lemmas.Result.{err_from_is_err_and}
use Rattle.der_core.proofs.StateLemmas.{byte_working, byte_read, byte_refused, same_trans}
use Rattle.der_core.proofs.LengthReadLemmas.{passed_short, passed_long, length_by_form, length_ends, length_refused}
use Rattle.der_core.proofs.DecodeLemmas.{decoded_ok, decoded_err}
use Rattle.der_core.proofs.length.decode_length_after.Goals as goal

pub returns-in_err-first : goal.returns-in_err-first
returns-in_err-first g c =
    let p = err_from_is_err_and c.from_residual.result c.from_residual.ensures.1 in
    rw (p.1, p.2) (decoded_err c.in_err-first.ensures.same
    (λ reliable. length_ends (byte_refused (g.met.R.Reader.sound_state c.args.reader.now) (c.in_err-first.ensures.exact reliable))))

pub returns-then-first-lt-INDEFINITE : goal.returns-then-first-lt-INDEFINITE
returns-then-first-lt-INDEFINITE g c =
    decoded_ok c.in_ok-first.ensures.same
    (passed_short (byte_working _ _ _ c.in_ok-first.ensures.exact) (byte_read c.in_ok-first.ensures.exact) c.if-first-lt-INDEFINITE.true c.new.ensures)

pub returns-then-first : goal.returns-then-first
returns-then-first g c =
    length_by_form c.decode_indefinite_form.result c.if-first.true (byte_working _ _ _ c.in_ok-first.ensures.exact) (byte_read c.in_ok-first.ensures.exact) c.in_ok-first.ensures.same c.decode_indefinite_form.ensures.same
    c.decode_indefinite_form.ensures.ok c.decode_indefinite_form.ensures.exact

pub returns : goal.returns
returns g c =
    decoded_ok (same_trans c.in_ok-first.ensures.same c.in_ok-number.ensures.same)
    (passed_long (byte_working _ _ _ c.in_ok-first.ensures.exact) (byte_read c.in_ok-first.ensures.exact) c.in_ok-number.ensures.ok c.new-2.ensures)

pub returns-in_err-number : goal.returns-in_err-number
returns-in_err-number g c =
    let p = err_from_is_err_and c.from_residual-in_err-number.result c.from_residual-in_err-number.ensures.1 in
    rw (p.1, p.2) (decoded_err (same_trans c.in_ok-first.ensures.same c.in_err-number.ensures.same)
    (λ reliable. length_refused (byte_working _ _ _ c.in_ok-first.ensures.exact) (byte_read c.in_ok-first.ensures.exact) (c.in_err-number.ensures.exact reliable)))
