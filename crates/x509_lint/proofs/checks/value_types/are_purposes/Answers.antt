use Rattle.der.specs.Prelude.{Sequence}
use Rattle.x509_lint.proofs.ElementLemmas.{of_some_contents}
use Rattle.x509_lint.specs.ValueTypes.{ArePurposes}
use Rattle.x509_lint.proofs.checks.value_types.are_purposes.Goals as goal

pub returns-in-Some : goal.returns-in-Some
returns-in-Some c =
    of_some_contents ArePurposes c.args.value.now Sequence c.in-Some.contents.now c.are_identifiers.result c.in-Some.ensures.some c.are_identifiers.ensures
