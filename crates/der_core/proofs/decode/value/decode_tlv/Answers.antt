use Rattle.std.proofs.Common.{arith, ◌≡◌, refl, sym, ap, subst, ◌∙◌}
use Rattle.std.proofs.lemmas.Result.{err_from_is_err_and}
use Rattle.der_base.specs.Error.{unexpected_tag}
use Rattle.der_core.specs.Element.{no_header, other_tag, in_contents}
use Rattle.der_core.proofs.DecodeLemmas.{decodes_reliably, not_refused}
use Rattle.der_base.specs.ScanGrammar.{BodyFault}
use Rattle.der_base.proofs.HeaderLemmas.{header_grammar}
use Rattle.der_base.proofs.ScanLemmas.{body_fault_laws}
use Rattle.der_core.proofs.ElementLemmas.{at_contents, OkIsAccepted, Vows, element_ok, element_complete, header_tagged, reliable_owes, value_result_of_type}
use Rattle.der_core.proofs.TagAssertedLemmas.{tag_asserted, another_tag, other_tag_reported}
use Rattle.der_core.proofs.decode.value.decode_tlv.Goals as goal

pub returns-in_err-header-clause-exact : goal.returns-in_err-header-clause-exact
returns-in_err-header-clause-exact g c =
    let p = err_from_is_err_and c.from_residual.result c.from_residual.ensures.1 in
    rw (p.1) (λ reliable. no_header _ _ (decodes_reliably reliable c.in_err-header.ensures) p.2 refl)

pub returns-in_err-header-clause-complete : goal.returns-in_err-header-clause-complete
returns-in_err-header-clause-complete g c v m reliable working e deep =
    absurd (not_refused (header_grammar BodyFault body_fault_laws) (c.in_err-header.ensures.refused reliable) working e.next)

pub returns-in_err-assert_eq-clause-exact : goal.returns-in_err-assert_eq-clause-exact
returns-in_err-assert_eq-clause-exact g c =
    let p = err_from_is_err_and c.from_residual-in_err-assert_eq.result c.from_residual-in_err-assert_eq.ensures.1 in
    let another = another_tag c.tag.result c.fixed_tag-expected.result c.in_err-assert_eq.field-0.0 c.assert_eq.result c.in_err-assert_eq.was c.assert_eq.ensures.expected_tag in
    let reported : c.in_err-assert_eq.field-0.0 ≡ unexpected_tag c.fixed_tag-expected.result c.tag.result = other_tag_reported c.tag.result c.fixed_tag-expected.result c.in_err-assert_eq.field-0.0 c.assert_eq.result c.in_err-assert_eq.was another c.assert_eq.ensures.other_tag in
    let said : c.in_err-assert_eq.field-0.0 ≡ unexpected_tag g.T.FixedTag.tag_is c.in_ok-header.header.tag = reported ∙ ap (λ x. unexpected_tag x c.tag.result) c.fixed_tag-expected.ensures ∙ ap (unexpected_tag g.T.FixedTag.tag_is) c.tag.ensures in
    rw (p.1) (λ reliable. other_tag c.in_ok-header.header _ c.in_ok-header.ensures.ok (λ same. another (c.tag.ensures ∙ same ∙ sym c.fixed_tag-expected.ensures)) (subst (λ e. g.T.Error.From.from_gives e p.0) said p.2) refl)

pub returns-in_err-assert_eq-clause-complete : goal.returns-in_err-assert_eq-clause-complete
returns-in_err-assert_eq-clause-complete g c v m reliable working e deep =
    let another = another_tag c.tag.result c.fixed_tag-expected.result c.in_err-assert_eq.field-0.0 c.assert_eq.result c.in_err-assert_eq.was c.assert_eq.ensures.expected_tag in
    absurd (another (c.tag.ensures ∙ header_tagged c.in_ok-header.ensures.ok e ∙ sym c.fixed_tag-expected.ensures))

pub returns-clause-ok : goal.returns-clause-ok
returns-clause-ok g c =
    let tagged : c.in_ok-header.header.tag ≡ g.T.FixedTag.tag_is = sym c.tag.ensures ∙ tag_asserted c.tag.result c.fixed_tag-expected.result c.in_ok-assert_eq.field-0 c.assert_eq.result c.in_ok-assert_eq.was c.assert_eq.ensures.other_tag ∙ c.fixed_tag-expected.ensures in
    element_ok g.T.FixedTag.tag_is g.T.ReadValue.takes (g.R.Reader.state c.args.reader.now) (g.R.Reader.state c.decode_guessed_header.new.reader) (g.R.Reader.state c.read_value.new.reader) c.in_ok-header.header g.R.Reader.reliable
    c.read_value.result (g.met.R.Reader.sound_state c.decode_guessed_header.new.reader) c.in_ok-header.ensures.ok tagged (λ p a q r. r.2.1.0)
    (λ p v q r. at_contents c.in_ok-header.header (OkIsAccepted g.T.ReadValue.takes (g.R.Reader.state p.now) v (g.R.Reader.state q.now)) r.1 r.2.1.1.0) c.read_value.ensures.exact

pub returns-clause-complete : goal.returns-clause-complete
returns-clause-complete g c v m reliable working e deep =
    let tagged : c.in_ok-header.header.tag ≡ g.T.FixedTag.tag_is = sym c.tag.ensures ∙ tag_asserted c.tag.result c.fixed_tag-expected.result c.in_ok-assert_eq.field-0 c.assert_eq.result c.in_ok-assert_eq.was c.assert_eq.ensures.other_tag ∙ c.fixed_tag-expected.ensures in
    element_complete g.T.FixedTag.tag_is g.T.ReadValue.takes g.T.Error.DecodeError.out_of_memory g.T.ReadValue.allocates g.T.ReadValue.value_levels (g.R.Reader.state c.args.reader.now) (g.R.Reader.state c.decode_guessed_header.new.reader) (g.R.Reader.state c.read_value.new.reader) c.in_ok-header.header
    g.T.Error.From.from_gives c.read_value.result v m (g.met.R.Reader.sound_state c.decode_guessed_header.new.reader) c.in_ok-header.ensures.ok tagged (λ p a q r. r.2.1.0)
    (λ p v q r. at_contents c.in_ok-header.header (OkIsAccepted g.T.ReadValue.takes (g.R.Reader.state p.now) v (g.R.Reader.state q.now)) r.1 r.2.1.1.0)
    (λ p a q r. at_contents c.in_ok-header.header (Vows g.T.ReadValue.takes g.T.Error.DecodeError.out_of_memory g.T.ReadValue.allocates g.T.ReadValue.value_levels (g.R.Reader.state p.now) a (g.R.Reader.state q.now)) r.1 (λ w. r.2.1.1.1.0 w reliable))
    e (let d = deep in omega arith) (c.read_value.ensures.exact (reliable_owes g.R.Reader.reliable c.read_value.result reliable))

pub returns-clause-exact : goal.returns-clause-exact
returns-clause-exact g c reliable =
    let tagged : c.in_ok-header.header.tag ≡ g.T.FixedTag.tag_is = sym c.tag.ensures ∙ tag_asserted c.tag.result c.fixed_tag-expected.result c.in_ok-assert_eq.field-0 c.assert_eq.result c.in_ok-assert_eq.was c.assert_eq.ensures.other_tag ∙ c.fixed_tag-expected.ensures in
    in_contents c.in_ok-header.header _ c.in_ok-header.ensures.ok tagged
    (value_result_of_type (λ p a q r. at_contents c.in_ok-header.header (λ h. g.T.DecodeValue.decode_value_answers h (g.R.Reader.state p.now) a (g.R.Reader.state q.now)) r.1 (r.2.1.1.1.1 reliable)) (c.read_value.ensures.exact (reliable_owes g.R.Reader.reliable c.read_value.result reliable)))
