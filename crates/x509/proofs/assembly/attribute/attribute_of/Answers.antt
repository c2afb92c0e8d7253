use Rattle.std.proofs.Common.{Ok, Err, refl}
use Rattle.std.proofs.lemmas.Result.{err_from_is_err_and}
use Rattle.x509.proofs.assembly.attribute.attribute_of.Goals as goal

pub returns-in_err-contents-clause-exact : goal.returns-in_err-contents-clause-exact
returns-in_err-contents-clause-exact g c =
    let p = err_from_is_err_and c.from_residual.result c.from_residual.ensures.1 in
    (Err c.in_err-contents.field-0.0, c.in_err-contents.ensures.exact, rw (p.1, p.2) refl)

pub returns-in_err-values-clause-exact : goal.returns-in_err-values-clause-exact
returns-in_err-values-clause-exact g c =
    let p = err_from_is_err_and c.from_residual-in_err-values.result c.from_residual-in_err-values.ensures.1 in
    (Ok c.in_ok-contents.contents.now, c.in_ok-contents.ensures.exact, rw (p.1, p.2) (c.in_err-values.ensures.exact c.in_ok-contents.ensures.short))

pub returns-clause-exact : goal.returns-clause-exact
returns-clause-exact g c = (Ok c.in_ok-contents.contents.now, c.in_ok-contents.ensures.exact, c.in_ok-values.ensures.exact c.in_ok-contents.ensures.short)
