use Rattle.std.proofs.Common.{refl, sym, ◌∙◌}
use Rattle.std.proofs.lemmas.Result.{err_from_is_err_and}
use Rattle.der_asn1.specs.ListAnswers.{ItemAnswer}
use Rattle.der_c_x509.proofs.next.decode_item.Goals as goal

pub returns-in_err-value-clause-exact : goal.returns-in_err-value-clause-exact
returns-in_err-value-clause-exact g c =
    let p = err_from_is_err_and c.from_residual.result c.from_residual.ensures.1 in
    rw (p.1, p.2) (ItemAnswer.item_refused c.in_err-value.field-0.0 (c.in_err-value.ensures.exact refl) refl)

pub returns-then-is_failed-clause-exact : goal.returns-then-is_failed-clause-exact
returns-then-is_failed-clause-exact g c = ItemAnswer.item_failed c.in_ok-value.value _ _ (c.in_ok-value.ensures.exact refl) (sym c.is_failed.ensures ∙ c.if-is_failed.true) c.error.ensures.at_position refl

pub returns-clause-exact : goal.returns-clause-exact
returns-clause-exact g c = ItemAnswer.item_read c.in_ok-value.value (c.in_ok-value.ensures.exact refl) (sym c.is_failed.ensures ∙ c.if-is_failed.false) refl
