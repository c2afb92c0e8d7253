use Rattle.std.proofs.Common.{refl, sym, ◌∙◌, inr, Ok, Err, length, ◌≡◌}
use Rattle.std.proofs.lemmas.Result.{err_from_is_err_and}
use Rattle.der_core.specs.SliceReader.{slice_state}
use Rattle.der_core.proofs.DecodeLemmas.{promised, read_on, lacks_only}
use Rattle.der_core.proofs.WholeLemmas.{wholly, whole_finishes, whole_err, whole_left, whole_ok}
use Rattle.der_core.proofs.decode.decode_whole.Goals as goal

pub returns-in_err-value-clause-exact : goal.returns-in_err-value-clause-exact
returns-in_err-value-clause-exact g c =
    let p = err_from_is_err_and c.from_residual-in_err-value.result c.from_residual-in_err-value.ensures.1 in
    rw (p.1, p.2) (whole_err c.args.encoding_rules _ (slice_state c.in_ok-reader.reader) (slice_state c.decode.new.reader) c.in_ok-reader.ensures.ok g.T.Decode.decode_answers g.T.Error.From.from_gives _
    (c.in_ok-reader.ensures.fits.0 refl) (c.in_err-value.ensures.exact refl))

pub returns-in_err-value-clause-complete : goal.returns-in_err-value-clause-complete
returns-in_err-value-clause-complete g c v small next levels =
    let p = err_from_is_err_and c.from_residual-in_err-value.result c.from_residual-in_err-value.ensures.1 in
    rw (p.1, p.2) (inr (lacks_only g.row.T.Denot g.T.Error.DecodeError.out_of_memory (slice_state c.in_ok-reader.reader) (slice_state c.decode.new.reader) (length c.args.bytes.now)
    (promised c.args.encoding_rules g.T.Decode.is_next g.T.Decode.decode_levels g.T.Error.DecodeError.out_of_memory g.T.Decode.allocates _ (slice_state c.in_ok-reader.reader)
    (slice_state c.decode.new.reader) v _ (Err c.in_err-value.field-0.0) c.in_ok-reader.ensures.ok next levels (c.in_err-value.ensures.complete v _ refl))))

pub returns-in_err-finish-clause-exact : goal.returns-in_err-finish-clause-exact
returns-in_err-finish-clause-exact g c =
    let p = err_from_is_err_and c.from_residual-in_err-finish.result c.from_residual-in_err-finish.ensures.1 in
    rw (p.1) (whole_left c.args.encoding_rules _ (slice_state c.in_ok-reader.reader) (slice_state c.decode.new.reader) c.in_ok-reader.ensures.ok g.T.Decode.decode_answers g.T.Error.From.from_gives _ _ _
    (c.in_ok-reader.ensures.fits.0 refl) (c.in_ok-value.ensures.exact refl) (c.in_err-finish.ensures.exact refl) p.2)

pub returns-in_err-finish-clause-complete : goal.returns-in_err-finish-clause-complete
returns-in_err-finish-clause-complete g c v small next levels =
    let there = read_on g.row.T-Error.Denot g.T.Error.DecodeError.out_of_memory (slice_state c.in_ok-reader.reader) (length c.args.bytes.now) c.in_ok-value.value
    (promised c.args.encoding_rules g.T.Decode.is_next g.T.Decode.decode_levels g.T.Error.DecodeError.out_of_memory g.T.Decode.allocates _ (slice_state c.in_ok-reader.reader)
    (slice_state c.decode.new.reader) v _ (Ok c.in_ok-value.value) c.in_ok-reader.ensures.ok next levels (c.in_ok-value.ensures.complete v _ refl)) in
    let finished = whole_finishes c.args.encoding_rules _ (slice_state c.in_ok-reader.reader) (slice_state c.decode.new.reader) c.in_ok-reader.ensures.ok there in
    absurd (let no : Err c.in_err-finish.field-0.0 ≡ Ok tt = c.in_err-finish.ensures.exact refl ∙ finished in cc)

pub returns-clause-ok : goal.returns-clause-ok
returns-clause-ok g c =
    wholly c.args.encoding_rules _ (slice_state c.in_ok-reader.reader) (slice_state c.decode.new.reader) c.in_ok-reader.ensures.ok g.T.Decode.is_next c.in_ok-value.value c.in_ok-value.ensures.ok
    (sym (c.in_ok-finish.ensures.exact refl))

pub returns-clause-exact : goal.returns-clause-exact
returns-clause-exact g c =
    whole_ok c.args.encoding_rules _ (slice_state c.in_ok-reader.reader) (slice_state c.decode.new.reader) c.in_ok-reader.ensures.ok g.T.Decode.decode_answers g.T.Error.From.from_gives c.in_ok-value.value
    (c.in_ok-reader.ensures.fits.0 refl) (c.in_ok-value.ensures.exact refl) (sym (c.in_ok-finish.ensures.exact refl))
