use Rattle.std.proofs.Common.{refl}
use Rattle.std.proofs.lemmas.Result.{err_from_is_err_and}
use Rattle.der_core.specs.Fields.{first_refused, second_refused, both_read}
use Rattle.der_core.proofs.FieldLemmas.{fields_pass, second_lacks, both_complete}
use Rattle.der_core.proofs.decode.fields.Tuple2Decode.decode.Goals as goal

pub returns-in_err-first-clause-exact : goal.returns-in_err-first-clause-exact
returns-in_err-first-clause-exact g c =
    let p = err_from_is_err_and c.from_residual.result c.from_residual.ensures.1 in
    rw (p.1, p.2) (λ reliable. first_refused _ (c.in_err-first.ensures.exact reliable) refl)

pub returns-in_err-second-clause-complete : goal.returns-in_err-second-clause-complete
returns-in_err-second-clause-complete g c v m reliable working next deep =
    let p = err_from_is_err_and c.from_residual-in_err-second.result c.from_residual-in_err-second.ensures.1 in
    rw (p.1, p.2) (second_lacks g.A.Decode.is_next g.B.Decode.is_next g.A.Decode.decode_levels g.B.Decode.decode_levels g.A.Error.DecodeError.out_of_memory g.A.Decode.allocates g.B.Decode.allocates
    (g.R.Reader.state c.args.reader.now) (g.R.Reader.state c.decode.new.reader) v m c.in_ok-first.first (g.R.Reader.state c.decode-2.new.reader) (g.met.R.Reader.sound_state c.args.reader.now) c.decode.ensures.same working next deep
    (λ w n. c.in_ok-first.ensures.complete w n reliable) c.in_err-second.field-0.0 (λ w n. c.in_err-second.ensures.complete w n reliable))

pub returns-in_err-second-clause-exact : goal.returns-in_err-second-clause-exact
returns-in_err-second-clause-exact g c =
    let p = err_from_is_err_and c.from_residual-in_err-second.result c.from_residual-in_err-second.ensures.1 in
    rw (p.1, p.2) (λ reliable. second_refused _ _ _ (c.in_ok-first.ensures.exact reliable) (c.in_err-second.ensures.exact reliable) refl)

pub returns-clause-ok : goal.returns-clause-ok
returns-clause-ok g c = fields_pass c.in_ok-first.ensures.ok c.in_ok-second.ensures.ok c.decode-2.ensures.same

pub returns-clause-complete : goal.returns-clause-complete
returns-clause-complete g c v m reliable working next deep =
    both_complete g.A.Decode.is_next g.B.Decode.is_next g.A.Decode.decode_levels g.B.Decode.decode_levels g.A.Error.DecodeError.out_of_memory g.A.Decode.allocates g.B.Decode.allocates
    (g.R.Reader.state c.args.reader.now) (g.R.Reader.state c.decode.new.reader) v m c.in_ok-first.first (g.R.Reader.state c.decode-2.new.reader) (g.met.R.Reader.sound_state c.args.reader.now) c.decode.ensures.same working next deep
    (λ w n. c.in_ok-first.ensures.complete w n reliable) c.in_ok-second.second (λ w n. c.in_ok-second.ensures.complete w n reliable)

pub returns-clause-exact : goal.returns-clause-exact
returns-clause-exact g c reliable = both_read _ _ _ (c.in_ok-first.ensures.exact reliable) (c.in_ok-second.ensures.exact reliable) refl
