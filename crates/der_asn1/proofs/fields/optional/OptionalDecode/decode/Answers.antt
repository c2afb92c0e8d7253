use Rattle.std.proofs.Common.{None, Ok, Err, inl, refl}
use Rattle.std.proofs.lemmas.Result.{err_from_is_err_and}
use Rattle.der.proofs.DecodeLemmas.{decodes_reliably}
use Rattle.der_asn1.specs.Follow.{other}
use Rattle.der_asn1.specs.Optional.{OptionNext, no_tag, other_tag, chosen}
use Rattle.der_asn1.proofs.OptionalReadLemmas.{no_tag_no_field, absent_before, nothing_passed, stays_there, peeked, optional_lacks, optional_reads}
use Rattle.der_asn1.proofs.fields.optional.OptionalDecode.decode.Goals as goal

pub returns-in_err-tag-clause-complete : goal.returns-in_err-tag-clause-complete
returns-in_err-tag-clause-complete g c v m reliable working h deep =
    absurd (no_tag_no_field g.T.Choice.chooses g.T.Decode.is_next g.met.T.DecodeChoice.begins (g.R.Reader.state c.args.reader.now) v.0 m (g.met.R.Reader.sound_state c.args.reader.now) (λ e. (let yes = c.is_finished.ensures.1 e in let no = c.if-is_finished.false in cc)) reliable working c.in_err-tag.ensures h)

pub returns-in_err-tag-clause-exact : goal.returns-in_err-tag-clause-exact
returns-in_err-tag-clause-exact g c =
    let p = err_from_is_err_and c.from_residual.result c.from_residual.ensures.1 in
    rw (p.1) (λ reliable. no_tag _ _ (c.in_err-tag.ensures.0, decodes_reliably reliable c.in_err-tag.ensures.1) p.2 refl refl)

pub returns-then-not-can_decode-clause-ok : goal.returns-then-not-can_decode-clause-ok
returns-then-not-can_decode-clause-ok g c working still =
    nothing_passed (OptionNext g.T.Choice.chooses g.T.Decode.is_next None) (g.R.Reader.state c.args.reader.now) working (refl, other c.in_ok-tag.tag _ (peeked c.in_ok-tag.ensures) (λ is. (let yes = c.can_decode.ensures.1 is in let no = c.if-not-can_decode.true in cc)))

pub returns-then-not-can_decode-clause-complete : goal.returns-then-not-can_decode-clause-complete
returns-then-not-can_decode-clause-complete g c v m reliable working h deep =
    inl (refl, stays_there (g.R.Reader.state c.args.reader.now) m (absent_before g.T.Choice.chooses g.T.Decode.is_next g.met.T.DecodeChoice.begins (g.R.Reader.state c.args.reader.now) v.0 m c.in_ok-tag.ensures (λ is. (let yes = c.can_decode.ensures.1 is in let no = c.if-not-can_decode.true in cc)) h))

pub returns-then-not-can_decode-clause-exact : goal.returns-then-not-can_decode-clause-exact
returns-then-not-can_decode-clause-exact g c reliable =
    other_tag c.in_ok-tag.tag (c.in_ok-tag.ensures.0, decodes_reliably reliable c.in_ok-tag.ensures.1) (λ is. (let yes = c.can_decode.ensures.1 is in let no = c.if-not-can_decode.true in cc)) refl refl

pub returns-in_err-value-clause-complete : goal.returns-in_err-value-clause-complete
returns-in_err-value-clause-complete g c v m reliable working h deep =
    let p = err_from_is_err_and c.from_residual-in_err-value.result c.from_residual-in_err-value.ensures.1 in
    rw (p.1, p.2) (optional_lacks g.T.Choice.chooses g.T.Decode.is_next g.met.T.DecodeChoice.begins (g.R.Reader.state c.args.reader.now) g.T.Decode.decode_levels g.T.Error.DecodeError.out_of_memory g.T.Decode.allocates (g.R.Reader.state c.decode.new.reader) c.in_ok-tag.ensures (c.can_decode.ensures.0 c.if-not-can_decode.false) v.0 m c.in_err-value.field-0.0 working h deep (λ w n. c.in_err-value.ensures.complete w n reliable))

pub returns-in_err-value-clause-exact : goal.returns-in_err-value-clause-exact
returns-in_err-value-clause-exact g c =
    let p = err_from_is_err_and c.from_residual-in_err-value.result c.from_residual-in_err-value.ensures.1 in
    rw (p.1, p.2) (λ reliable. chosen c.in_ok-tag.tag (Err c.in_err-value.field-0.0) (c.in_ok-tag.ensures.0, decodes_reliably reliable c.in_ok-tag.ensures.1) (c.can_decode.ensures.0 c.if-not-can_decode.false) (c.in_err-value.ensures.exact reliable) refl)

pub returns-clause-complete : goal.returns-clause-complete
returns-clause-complete g c v m reliable working h deep =
    optional_reads g.T.Choice.chooses g.T.Decode.is_next g.met.T.DecodeChoice.begins (g.R.Reader.state c.args.reader.now) g.T.Decode.decode_levels g.T.Error.DecodeError.out_of_memory g.T.Decode.allocates (g.R.Reader.state c.decode.new.reader) c.in_ok-tag.ensures (c.can_decode.ensures.0 c.if-not-can_decode.false) v.0 m c.in_ok-value.value working h deep (λ w n. c.in_ok-value.ensures.complete w n reliable)

pub returns-clause-exact : goal.returns-clause-exact
returns-clause-exact g c reliable =
    chosen c.in_ok-tag.tag (Ok c.in_ok-value.value) (c.in_ok-tag.ensures.0, decodes_reliably reliable c.in_ok-tag.ensures.1) (c.can_decode.ensures.0 c.if-not-can_decode.false) (c.in_ok-value.ensures.exact reliable) refl
