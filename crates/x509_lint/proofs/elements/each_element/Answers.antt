use Rattle.std.proofs.Common.{◌≡◌, false, true, inl, inr, refl, sym, subst}
use Rattle.x509_lint.specs.Elements.{EachElement}
use Rattle.x509_lint.proofs.elements.each_element.Goals as goal

pub returns-in-Ok : goal.returns-in-Ok
returns-in-Ok g c = (
  λ e. subst (EachElement (g.T.ElementTest.keeps c.args.test.now)) c.in-Ok.ensures.ok.0 (c.all_keep.ensures.0 e),
  λ h. c.all_keep.ensures.1 (subst (EachElement (g.T.ElementTest.keeps c.args.test.now)) (sym c.in-Ok.ensures.ok.0) h),
)

pub returns-in-Err : goal.returns-in-Err
returns-in-Err g c = (
  λ _ short l. absurd (elim (c.in-Err.ensures.complete short l) [ inl never ↦ (let f : false ≡ true = never in cc) | inr lacks ↦ (let f : false ≡ true = lacks.0 in cc) ]),
  λ _. refl,
)
