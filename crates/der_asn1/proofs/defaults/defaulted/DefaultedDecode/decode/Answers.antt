use Rattle.std.proofs.Common.{inl, refl, sym, ◌∙◌, subst}
use Rattle.std.proofs.lemmas.Result.{err_from_is_err_and}
use Rattle.der.proofs.DecodeLemmas.{decodes_reliably}
use Rattle.der_asn1.specs.Follow.{other}
use Rattle.der_asn1.specs.Default.{DefaultNext, absent, default_at_end, default_no_tag, default_other_tag, default_refused, default_written, default_other}
use Rattle.der_asn1.proofs.OptionalReadLemmas.{nothing_passed, stays_there, peeked}
use Rattle.der_asn1.proofs.DefaultReadLemmas.{default_no_field, default_before, default_lacks, default_reads, default_not_written, not_default}
use Rattle.der_asn1.proofs.defaults.defaulted.DefaultedDecode.decode.Goals as goal

pub returns-then-is_finished-clause-exact : goal.returns-then-is_finished-clause-exact
returns-then-is_finished-clause-exact g c reliable = default_at_end c.default_value.result (c.is_finished.ensures.0 c.if-is_finished.true) c.default_value.ensures refl refl

pub returns-in_err-tag-clause-complete : goal.returns-in_err-tag-clause-complete
returns-in_err-tag-clause-complete g c v m reliable working h deep =
    absurd (default_no_field g.T.Choice.chooses g.T.DefaultValue.is_default g.T.Decode.is_next g.met.T.DecodeChoice.begins (g.R.Reader.state c.args.reader.now) v.0 m (g.met.R.Reader.sound_state c.args.reader.now) (λ e. (let yes = c.is_finished.ensures.1 e in let no = c.if-is_finished.false in cc)) reliable working c.in_err-tag.ensures h)

pub returns-in_err-tag-clause-exact : goal.returns-in_err-tag-clause-exact
returns-in_err-tag-clause-exact g c =
    let p = err_from_is_err_and c.from_residual.result c.from_residual.ensures.1 in
    rw (p.1) (λ reliable. default_no_tag _ _ (c.in_err-tag.ensures.0, decodes_reliably reliable c.in_err-tag.ensures.1) p.2 refl refl)

pub returns-then-not-can_decode-clause-ok : goal.returns-then-not-can_decode-clause-ok
returns-then-not-can_decode-clause-ok g c working still =
    nothing_passed (DefaultNext g.T.Choice.chooses g.T.DefaultValue.is_default g.T.Decode.is_next c.default_value-then-not-can_decode.result) (g.R.Reader.state c.args.reader.now) working
    (absent c.default_value-then-not-can_decode.ensures refl (other c.in_ok-tag.tag _ (peeked c.in_ok-tag.ensures) (λ is. (let yes = c.can_decode.ensures.1 is in let no = c.if-not-can_decode.true in cc))))

pub returns-then-not-can_decode-clause-complete : goal.returns-then-not-can_decode-clause-complete
returns-then-not-can_decode-clause-complete g c v m reliable working h deep =
    inl (refl, stays_there (g.R.Reader.state c.args.reader.now) m (default_before g.T.Choice.chooses g.T.DefaultValue.is_default g.T.Decode.is_next g.met.T.DecodeChoice.begins (g.R.Reader.state c.args.reader.now) v.0 m c.in_ok-tag.ensures (λ is. (let yes = c.can_decode.ensures.1 is in let no = c.if-not-can_decode.true in cc)) h))

pub returns-then-not-can_decode-clause-exact : goal.returns-then-not-can_decode-clause-exact
returns-then-not-can_decode-clause-exact g c reliable =
    default_other_tag c.in_ok-tag.tag c.default_value-then-not-can_decode.result (c.in_ok-tag.ensures.0, decodes_reliably reliable c.in_ok-tag.ensures.1) (λ is. (let yes = c.can_decode.ensures.1 is in let no = c.if-not-can_decode.true in cc)) c.default_value-then-not-can_decode.ensures refl refl

pub returns-in_err-value-clause-complete : goal.returns-in_err-value-clause-complete
returns-in_err-value-clause-complete g c v m reliable working h deep =
    let p = err_from_is_err_and c.from_residual-in_err-value.result c.from_residual-in_err-value.ensures.1 in
    rw (p.1, p.2) (default_lacks g.T.Choice.chooses g.T.DefaultValue.is_default g.T.Decode.is_next g.met.T.DecodeChoice.begins (g.R.Reader.state c.args.reader.now) g.T.Decode.decode_levels g.T.Error.DecodeError.out_of_memory g.T.Decode.allocates (g.R.Reader.state c.decode.new.reader) c.in_ok-tag.ensures (c.can_decode.ensures.0 c.if-not-can_decode.false) v.0 m working h deep c.in_err-value.field-0.0 (λ w n. c.in_err-value.ensures.complete w n reliable))

pub returns-in_err-value-clause-exact : goal.returns-in_err-value-clause-exact
returns-in_err-value-clause-exact g c =
    let p = err_from_is_err_and c.from_residual-in_err-value.result c.from_residual-in_err-value.ensures.1 in
    rw (p.1, p.2) (λ reliable. default_refused c.in_ok-tag.tag c.in_err-value.field-0.0 (c.in_ok-tag.ensures.0, decodes_reliably reliable c.in_ok-tag.ensures.1) (c.can_decode.ensures.0 c.if-not-can_decode.false) (c.in_err-value.ensures.exact reliable) refl)

pub returns-then-is_written_default-clause-complete : goal.returns-then-is_written_default-clause-complete
returns-then-is_written_default-clause-complete g c v m reliable working h deep =
    let both = c.is_written_default.ensures.0 c.if-is_written_default.true in
    absurd (default_not_written g.T.Choice.chooses g.T.DefaultValue.is_default g.T.Decode.is_next g.met.T.DecodeChoice.begins (g.R.Reader.state c.args.reader.now) g.T.Decode.decode_levels g.T.Error.DecodeError.out_of_memory g.T.Decode.allocates (g.R.Reader.state c.decode.new.reader) c.in_ok-tag.ensures (c.can_decode.ensures.0 c.if-not-can_decode.false) v.0 m working h deep c.in_ok-value.value (λ w n. c.in_ok-value.ensures.complete w n reliable) g.met.T.HasDefault.reported c.in_ok-value.ensures.ok (sym c.encoding_rules.ensures ∙ both.0) both.1)

pub returns-then-is_written_default-clause-exact : goal.returns-then-is_written_default-clause-exact
returns-then-is_written_default-clause-exact g c reliable =
    let both = c.is_written_default.ensures.0 c.if-is_written_default.true in
    default_written c.in_ok-tag.tag c.in_ok-value.value (g.R.Reader.state c.decode.new.reader) c.into.result (c.in_ok-tag.ensures.0, decodes_reliably reliable c.in_ok-tag.ensures.1) (c.can_decode.ensures.0 c.if-not-can_decode.false) (c.in_ok-value.ensures.exact reliable) (sym c.encoding_rules.ensures ∙ both.0) both.1
    (subst (λ e. g.T.Error.From.from_gives e c.into.result) c.error.ensures.at_position c.into.ensures) refl c.error.ensures.failed

pub returns-clause-complete : goal.returns-clause-complete
returns-clause-complete g c v m reliable working h deep =
    default_reads g.T.Choice.chooses g.T.DefaultValue.is_default g.T.Decode.is_next g.met.T.DecodeChoice.begins (g.R.Reader.state c.args.reader.now) g.T.Decode.decode_levels g.T.Error.DecodeError.out_of_memory g.T.Decode.allocates (g.R.Reader.state c.decode.new.reader) c.in_ok-tag.ensures (c.can_decode.ensures.0 c.if-not-can_decode.false) v.0 m working h deep c.in_ok-value.value (λ w n. c.in_ok-value.ensures.complete w n reliable)

pub returns-clause-exact : goal.returns-clause-exact
returns-clause-exact g c reliable =
    default_other c.in_ok-tag.tag c.in_ok-value.value (c.in_ok-tag.ensures.0, decodes_reliably reliable c.in_ok-tag.ensures.1) (c.can_decode.ensures.0 c.if-not-can_decode.false) (c.in_ok-value.ensures.exact reliable)
    (λ der. not_default _ _ (λ a b. (let yes = c.is_written_default.ensures.1 (a, b) in let no = c.if-is_written_default.false in cc)) (c.encoding_rules.ensures ∙ der)) refl
