use Rattle.std.proofs.Common.{ap}
use Rattle.std.proofs.lemmas.Result.{err_from_is_err_and}
use Rattle.der_base.specs.Length.{number}
use Rattle.der_core.proofs.HeaderReadLemmas.{short_passed, short_granted}
use Rattle.der_core.proofs.DecodeLemmas.{decoded_ok, decoded_err}
use Rattle.der_core.proofs.header.decode_parts.Goals as goal

pub returns-in-Some : goal.returns-in-Some
returns-in-Some g c =
    decoded_ok c.in_ok-read_slice.ensures.same
    (short_passed (g.met.R.Reader.sound_state c.args.reader.now) c.short_header.ensures c.in-Some.is (ap number c.new.ensures) c.new-in-Some.ensures c.in_ok-read_slice.ensures.exact)

pub returns-in_err-read_slice : goal.returns-in_err-read_slice
returns-in_err-read_slice g c =
    let p = err_from_is_err_and c.from_residual.result c.from_residual.ensures.1 in
    rw (p.1, p.2) (decoded_err c.in_err-read_slice.ensures.same
    (λ reliable. absurd (short_granted (g.met.R.Reader.sound_state c.args.reader.now) c.short_header.ensures c.in-Some.is (ap number c.new.ensures) (c.in_err-read_slice.ensures.exact reliable))))
