use Rattle.std.proofs.Common.{◌≡◌, ◌↔◌, true, subst}
use Rattle.x509_lint.proofs.ElementLemmas.{negated}
use Rattle.x509_lint.specs.Elements.{EachElement}
use Rattle.x509_lint.specs.Parts.{PartKeeps}
use Rattle.x509_lint.proofs.group_test.GroupTestElementTest.keeps.Goals as goal

pub returns-in-Point : goal.returns-in-Point
returns-in-Point c =
    rw c.in-Point.is (negated c.each_element-in-Point.result
    (subst (λ p. (c.each_element-in-Point.result ≡ true) ↔ EachElement (PartKeeps p) c.args.contents.now) c.no_name_or_issuer.ensures c.each_element-in-Point.ensures))

pub returns-in-Subtrees : goal.returns-in-Subtrees
returns-in-Subtrees c = rw c.in-Subtrees.is c.each_element-in-Subtrees.ensures

pub returns-in-Location : goal.returns-in-Location
returns-in-Location c = rw c.in-Location.is c.each_element-in-Location.ensures
