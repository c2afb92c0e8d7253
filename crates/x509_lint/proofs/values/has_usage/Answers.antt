use Rattle.std.proofs.Common.{not}
use Rattle.der.specs.Prelude.{BitString}
use Rattle.x509_lint.proofs.ElementLemmas.{negated, of_all_contents}
use Rattle.x509_lint.specs.Values.{AreZero}
use Rattle.x509_lint.proofs.values.has_usage.Goals as goal

pub returns-in-Some : goal.returns-in-Some
returns-in-Some c =
    of_all_contents (λ x. AreZero x → ⊥) c.args.octets.now BitString c.in-Some.contents.now (not c.are_zero.result) c.in-Some.ensures.some (negated c.are_zero.result c.are_zero.ensures)
