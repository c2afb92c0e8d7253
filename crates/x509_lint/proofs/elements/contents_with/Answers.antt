use Rattle.std.proofs.Common.{sym, ◌∙◌, subst}
use Rattle.x509_lint.proofs.ElementLemmas.{element_same}
use Rattle.x509_lint.specs.Elements.{IsElement}
use Rattle.x509_lint.proofs.elements.contents_with.Goals as goal

pub returns-then-is_same_tag-clause-some : goal.returns-then-is_same_tag-clause-some
returns-then-is_same_tag-clause-some c =
    subst (λ t. IsElement c.args.octets.now t c.in-Some.element.contents.now) (c.is_same_tag.ensures.0 c.if-is_same_tag.true) c.in-Some.ensures.some

pub returns-else-is_same_tag-clause-none : goal.returns-else-is_same_tag-clause-none
returns-else-is_same_tag-clause-none c contents is =
    let same = element_same c.in-Some.element.tag c.args.tag c.in-Some.element.contents.now contents (sym c.in-Some.ensures.some.2 ∙ is.2) in
    let yes = c.is_same_tag.ensures.1 same.0 in let wrong = c.if-is_same_tag.false in cc
