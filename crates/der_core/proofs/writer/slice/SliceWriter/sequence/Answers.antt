use Rattle.std.proofs.Common.{refl, sym, ap, ◌∙◌, subst, Ok, Err}
use Rattle.std.proofs.lemmas.Result.{err_from_is_err_and}
use Rattle.der_base.specs.Length.{number}
use Rattle.der_base.specs.HeaderGrammar.{Head, header_octets}
use Rattle.der_core.specs.Writer.{WriterState, Writes, appended_state}
use Rattle.der_core.specs.Encode.{header_outcome}
use Rattle.der_core.specs.SliceWriter.{slice_writer_state}
use Rattle.der_core.specs.WrittenSequence.{no_header}
use Rattle.der_core.proofs.WriterLemmas.{following_header}
use Rattle.der_core.proofs.writer.slice.SliceWriter.sequence.Goals as goal

pub returns-clause-exact : goal.returns-clause-exact
returns-clause-exact g c =
    let s : WriterState = slice_writer_state c.args.self.now in
    following_header _ s _ _ _ _ (c.in_ok-encode.ensures.ok ∙ ap (λ (h : Head). appended_state s (header_octets h.tag (number h.length))) c.new.ensures)
    (subst (λ (h : Head). Writes (header_outcome h.tag (number h.length) s) (Ok tt) (slice_writer_state c.encode.new.writer)) c.new.ensures (c.in_ok-encode.ensures.exact refl)) c.fill_part.ensures.exact

pub returns-in_err-encode-clause-exact : goal.returns-in_err-encode-clause-exact
returns-in_err-encode-clause-exact g c =
    let s : WriterState = slice_writer_state c.args.self.now in
    let wrote = subst (λ (h : Head). Writes (header_outcome h.tag (number h.length) s) (Err c.in_err-encode.field-0.0) (slice_writer_state c.encode.new.writer)) c.new.ensures (c.in_err-encode.ensures.exact refl) in
    let p = err_from_is_err_and c.from_residual.result c.from_residual.ensures.1 in
    rw (p.1, p.2) (no_header _ (sym wrote.answered) wrote)
