use Rattle.der_asn1.proofs.IntegerReadLemmas.{made_of}
use Rattle.der_asn1.proofs.numbers.integer_number.I64IntegerNumber.to_contents.Goals as goal

pub returns-then-self-lt0-clause-formed : goal.returns-then-self-lt0-clause-formed
returns-then-self-lt0-clause-formed c = made_of c.args.self c.ranges.self

pub returns-else-self-lt0-clause-formed : goal.returns-else-self-lt0-clause-formed
returns-else-self-lt0-clause-formed c = made_of c.args.self c.ranges.self
