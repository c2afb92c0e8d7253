use Rattle.der.specs.Prelude.{Sequence}
use Rattle.x509_lint.proofs.ElementLemmas.{of_some_contents}
use Rattle.x509_lint.specs.Values.{BeginsWithTrue}
use Rattle.x509_lint.proofs.values.has_authority.Goals as goal

pub returns-in-Some : goal.returns-in-Some
returns-in-Some c =
    of_some_contents BeginsWithTrue c.args.octets.now Sequence c.in-Some.contents.now c.begins_with_true.result c.in-Some.ensures.some c.begins_with_true.ensures
