use Rattle.std.proofs.Common.{not}
use Rattle.x509_lint.proofs.ElementLemmas.{given_exactly, negated}
use Rattle.x509_lint.proofs.inside_test.LackTestElementTest.keeps.Goals as goal

pub returns-else-each_element : goal.returns-else-each_element
returns-else-each_element g c =
    given_exactly (not c.each_element-else-each_element.result) (λ h. (let yes = c.each_element.ensures.1 h in let wrong = c.if-each_element.false in cc)) (negated c.each_element-else-each_element.result c.each_element-else-each_element.ensures)
