use Rattle.std.proofs.Common.{◌≡◌, false, true}
use Rattle.x509_lint.proofs.ElementLemmas.{and_with}
use Rattle.x509_lint.specs.Values.{HasBoth}
use Rattle.x509_lint.proofs.values.has_both.Goals as goal

pub returns-then-has_field : goal.returns-then-has_field
unfolding HasBoth
returns-then-has_field c = and_with c.has_field-then-has_field.result (c.has_field.ensures.0 c.if-has_field.true) c.has_field-then-has_field.ensures

pub returns-else-has_field : goal.returns-else-has_field
unfolding HasBoth
returns-else-has_field c = (
  λ e. absurd (let other = c.if-has_field.false in let wrong : false ≡ true = cc in cc),
  λ both. absurd (let yes = c.has_field.ensures.1 both.0 in let wrong : true ≡ false = cc in cc),
)
