use Rattle.std.proofs.Common.{inr}
use Rattle.std.proofs.lemmas.Result.{err_from_is_err_and}
use Rattle.der.proofs.RefusedSegmentLemmas.{segments_refused}
use Rattle.der.proofs.length.indefinite.read_constructed_vec.Goals as goal

pub returns-in_err-append_segments-clause-complete : goal.returns-in_err-append_segments-clause-complete
returns-in_err-append_segments-clause-complete g c out reliable working may joined =
    let p = err_from_is_err_and c.from_residual.result c.from_residual.ensures.1 in
    rw (p.1, p.2) (inr (segments_refused (c.in_err-append_segments.ensures.exact reliable) (g.met.R.Reader.sound_state c.args.reader.now) working c.number_fits.ensures out joined))
