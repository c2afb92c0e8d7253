use Rattle.std.proofs.Common.{refl, sym, ap, ◌∙◌, inl, inr}
use Rattle.std.proofs.lemmas.Result.{err_from_is_err_and}
use Rattle.der.specs.Prelude.{Error}
use Rattle.der.specs.ReaderState.{ReaderState}
use Rattle.der.proofs.DecodeLemmas.{lacks_only, read_on}
use Rattle.der_asn1.specs.UnknownElement.{unknown_refused, unknown_is_known, unknown_read}
use Rattle.der_asn1.specs.declared.elements.any.AnyRef.{AnyRef}
use Rattle.der_asn1.proofs.UnknownLemmas.{lacks, unknown_was_read}
use Rattle.der_asn1.proofs.fields.unknown_element.UnknownElementDecode.decode.Goals as goal

pub returns-in_err-element-clause-complete : goal.returns-in_err-element-clause-complete
returns-in_err-element-clause-complete g c v m reliable working next deep =
    let p = err_from_is_err_and c.from_residual.result c.from_residual.ensures.1 in
    rw (p.1, p.2) (inr (lacks_only {E = Error} AnyRef lacks (g.R.Reader.state c.args.reader.now) (g.R.Reader.state c.decode.new.reader) m {e = c.in_err-element.field-0.0} (c.in_err-element.ensures.complete v.element m reliable working next deep)))

pub returns-in_err-element-clause-exact : goal.returns-in_err-element-clause-exact
returns-in_err-element-clause-exact g c reliable =
    let p = err_from_is_err_and c.from_residual.result c.from_residual.ensures.1 in
    rw (p.1, p.2) (unknown_refused c.in_err-element.field-0.0 (c.in_err-element.ensures.exact reliable) refl)

pub returns-then-is_known-clause-complete : goal.returns-then-is_known-clause-complete
returns-then-is_known-clause-complete g c v m reliable working next deep =
    let moved = read_on Error lacks (g.R.Reader.state c.args.reader.now) m c.in_ok-element.element (c.in_ok-element.ensures.complete v.element m reliable working next deep) in
    let passed = c.in_ok-element.ensures.ok working (ap (λ (x : ReaderState). x.failed) moved ∙ working) in
    absurd (unknown_was_read g.K.KnownTags.known c.is_known.result next passed v.unknown c.is_known.ensures c.if-is_known.true)

pub returns-then-is_known-clause-exact : goal.returns-then-is_known-clause-exact
returns-then-is_known-clause-exact g c reliable =
    unknown_is_known c.in_ok-element.element (g.R.Reader.state c.decode.new.reader) c.error.result (c.in_ok-element.ensures.exact reliable) (sym c.is_known.ensures ∙ c.if-is_known.true) c.error.ensures.at_position refl c.error.ensures.failed

pub returns-clause-complete : goal.returns-clause-complete
returns-clause-complete g c v m reliable working next deep =
    inl (refl, read_on Error lacks (g.R.Reader.state c.args.reader.now) m c.in_ok-element.element (c.in_ok-element.ensures.complete v.element m reliable working next deep))

pub returns-clause-exact : goal.returns-clause-exact
returns-clause-exact g c reliable = unknown_read _ (c.in_ok-element.ensures.exact reliable) refl
