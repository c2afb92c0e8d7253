use Rattle.std.proofs.Common.{rules, ◌≡◌, refl, sym, ap, subst, ◌∙◌}
use Rattle.std.proofs.lemmas.Result.{err_from_is_err_and}
use Rattle.der_base.specs.Arithmetic.{sans_eoc}
use Rattle.der_base.specs.Error.{unexpected_tag}
use Rattle.der_base.specs.declared.tag.Tag.TheVariants.{Sequence}
use Rattle.der_core.specs.Element.{no_header, other_tag, in_contents}
use Rattle.der_core.proofs.DecodeLemmas.{decodes_reliably}
use Rattle.der_core.proofs.NestedLemmas.{value_at}
use Rattle.der_core.proofs.TagAssertedLemmas.{tag_asserted, another_tag, other_tag_reported}
use Rattle.der_core.proofs.reader.extension.ReaderExt.sequence.Goals as goal

pub returns-in_err-header-clause-exact : goal.returns-in_err-header-clause-exact
returns-in_err-header-clause-exact g c =
    let p = err_from_is_err_and c.from_residual.result c.from_residual.ensures.1 in
    rw (p.1) (λ owed. no_header _ _ (decodes_reliably owed c.in_err-header.ensures) p.2 refl)

pub returns-in_err-assert_eq-clause-exact : goal.returns-in_err-assert_eq-clause-exact
returns-in_err-assert_eq-clause-exact g c =
    let p = err_from_is_err_and c.from_residual-in_err-assert_eq.result c.from_residual-in_err-assert_eq.ensures.1 in
    let another = another_tag c.tag.result Sequence c.in_err-assert_eq.field-0.0 c.assert_eq.result c.in_err-assert_eq.was c.assert_eq.ensures.expected_tag in
    let reported : c.in_err-assert_eq.field-0.0 ≡ unexpected_tag Sequence c.in_ok-header.header.tag =
    other_tag_reported c.tag.result Sequence c.in_err-assert_eq.field-0.0 c.assert_eq.result c.in_err-assert_eq.was another c.assert_eq.ensures.other_tag ∙ ap (unexpected_tag Sequence) c.tag.ensures in
    rw (p.1) (λ owed. other_tag c.in_ok-header.header _ c.in_ok-header.ensures.ok (λ same. another (c.tag.ensures ∙ same)) (subst (λ e. g.E.From.from_gives e p.0) reported p.2) refl)

pub read_contents-requires : goal.read_contents-requires
read_contents-requires g c =
    let is = sym c.tag.ensures ∙ tag_asserted c.tag.result Sequence c.in_ok-assert_eq.field-0 c.assert_eq.result c.in_ok-assert_eq.was c.assert_eq.ensures.other_tag in
    search rules

pub returns-clause-exact : goal.returns-clause-exact
returns-clause-exact g c owed =
    let is = sym c.tag.ensures ∙ tag_asserted c.tag.result Sequence c.in_ok-assert_eq.field-0 c.assert_eq.result c.in_ok-assert_eq.was c.assert_eq.ensures.other_tag in
    in_contents c.in_ok-header.header _ c.in_ok-header.ensures.ok is (value_at (c.sans_eoc.ensures ∙ ap sans_eoc c.length.ensures) (c.read_contents.ensures.exact owed))
