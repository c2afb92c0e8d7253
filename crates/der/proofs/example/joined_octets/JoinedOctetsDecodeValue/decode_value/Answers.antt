use Rattle.std.proofs.Common.{inr, refl, ap}
use Rattle.std.proofs.lemmas.Result.{err_from_is_err_and}
use Rattle.der_base.specs.Error.{kind_of}
use Rattle.der_core.specs.Decode.{is_out_of_memory_kind}
use Rattle.der.proofs.PartsLemmas.{parts_taken, parts_lacking}
use Rattle.der.proofs.example.joined_octets.JoinedOctetsDecodeValue.decode_value.Goals as goal

pub returns-in_err-octets-clause-complete : goal.returns-in_err-octets-clause-complete
returns-in_err-octets-clause-complete g c v reliable contents few =
    let p = err_from_is_err_and c.from_residual.result c.from_residual.ensures.1 in
    let s = g.R.Reader.state c.args.reader.now in
    let reported = parts_lacking s contents.is_next _ _ _ (g.met.R.Reader.sound_state c.args.reader.now) few contents.taken.1 (c.in_err-octets.ensures.exact reliable)
    (λ out has joined. c.in_err-octets.ensures.complete out reliable contents.is_next.working has joined) in
    rw (p.1, p.2) (inr (refl, ap (λ e. is_out_of_memory_kind (kind_of e)) reported))

pub returns-clause-sound : goal.returns-clause-sound
returns-clause-sound g c is_next ended = (
  c.in_ok-octets.octets.counted,
  parts_taken (g.R.Reader.state c.args.reader.now) is_next _ _ (g.met.R.Reader.sound_state c.args.reader.now) c.in_ok-octets.ensures.ok,
)
