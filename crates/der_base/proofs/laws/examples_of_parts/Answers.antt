use Rattle.der_base.proofs.ExampleLemmas.{examples_of_parts}
use Rattle.der_base.proofs.laws.examples_of_parts.Goals as goal

pub returns : goal.returns
returns c = examples_of_parts
