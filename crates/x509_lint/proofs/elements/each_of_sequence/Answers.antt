use Rattle.std.proofs.Common.{sym, subst, ◌∙◌}
use Rattle.der.specs.Prelude.{Sequence}
use Rattle.x509_lint.proofs.ElementLemmas.{element_same}
use Rattle.x509_lint.specs.Elements.{EachElement}
use Rattle.x509_lint.proofs.elements.each_of_sequence.Goals as goal

pub returns-in-Some : goal.returns-in-Some
returns-in-Some g c = (
  λ e contents is. subst (EachElement (g.T.ElementTest.keeps c.args.test.now))
      (element_same Sequence Sequence c.in-Some.contents.now contents (sym c.in-Some.ensures.some.2 ∙ is.2)).1 (c.each_element.ensures.0 e),
  λ h. c.each_element.ensures.1 (h c.in-Some.contents.now c.in-Some.ensures.some),
)
