use Rattle.std.proofs.Common.{refl, inr, Err}
use Rattle.std.proofs.lemmas.Result.{err_from_is_err_and}
use Rattle.der_base.specs.declared.encoding_rules.EncodingRules.TheVariants.{Der}
use Rattle.der_core.specs.SliceReader.{slice_state}
use Rattle.der_core.proofs.DecodeLemmas.{promised, not_lost, lacks_only, partial_err, partial_lost, partial_ok}
use Rattle.der_core.proofs.decode.DecodeBytes.from_der_partial.Goals as goal

pub returns-in_err-value-clause-exact : goal.returns-in_err-value-clause-exact
returns-in_err-value-clause-exact g c =
    let p = err_from_is_err_and c.from_residual-in_err-value.result c.from_residual-in_err-value.ensures.1 in
    rw (p.1, p.2) (partial_err Der g.Self.Decode.decode_answers g.Self.Error.From.from_gives _ (slice_state c.in_ok-reader.reader) (slice_state c.decode.new.reader) _
    (c.in_ok-reader.ensures.fits.0 refl) c.in_ok-reader.ensures.ok (c.in_err-value.ensures.exact refl))

pub returns-in_err-value-clause-complete : goal.returns-in_err-value-clause-complete
returns-in_err-value-clause-complete g c v m small next levels =
    let p = err_from_is_err_and c.from_residual-in_err-value.result c.from_residual-in_err-value.ensures.1 in
    rw (p.1, p.2) (inr (lacks_only g.row.Self.Denot g.Self.Error.DecodeError.out_of_memory (slice_state c.in_ok-reader.reader) (slice_state c.decode.new.reader) m
    (promised Der g.Self.Decode.is_next g.Self.Decode.decode_levels g.Self.Error.DecodeError.out_of_memory g.Self.Decode.allocates _ (slice_state c.in_ok-reader.reader)
    (slice_state c.decode.new.reader) v m (Err c.in_err-value.field-0.0) c.in_ok-reader.ensures.ok next levels (c.in_err-value.ensures.complete v m refl))))

pub returns-in_err-rest-clause-exact : goal.returns-in_err-rest-clause-exact
returns-in_err-rest-clause-exact g c =
    let p = err_from_is_err_and c.from_residual-in_err-rest.result c.from_residual-in_err-rest.ensures.1 in
    rw (p.1) (partial_lost Der g.Self.Decode.decode_answers g.Self.Error.From.from_gives _ (slice_state c.in_ok-reader.reader) (slice_state c.decode.new.reader) _ _ _
    (c.in_ok-reader.ensures.fits.0 refl) c.in_ok-reader.ensures.ok (c.in_ok-value.ensures.exact refl) (c.in_err-rest.ensures.exact refl) p.2)

pub returns-in_err-rest-clause-complete : goal.returns-in_err-rest-clause-complete
returns-in_err-rest-clause-complete g c v m small next levels =
    absurd (not_lost Der g.Self.Decode.is_next g.Self.Decode.decode_levels g.Self.Error.DecodeError.out_of_memory g.Self.Decode.allocates _ (slice_state c.in_ok-reader.reader)
    (slice_state c.decode.new.reader) v c.in_ok-value.value m c.in_err-rest.field-0.0 c.in_ok-reader.ensures.ok next levels (c.in_ok-value.ensures.complete v m refl)
    (c.in_err-rest.ensures.exact refl))

pub returns-clause-exact : goal.returns-clause-exact
returns-clause-exact g c =
    partial_ok Der g.Self.Decode.decode_answers g.Self.Error.From.from_gives _ (slice_state c.in_ok-reader.reader) (slice_state c.decode.new.reader) _ _
    (c.in_ok-reader.ensures.fits.0 refl) c.in_ok-reader.ensures.ok (c.in_ok-value.ensures.exact refl) c.in_ok-rest.ensures.ok
