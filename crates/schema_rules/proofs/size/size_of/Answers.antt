use Rattle.std.proofs.Common.{arith}
use Rattle.schema_rules.proofs.SizeLemmas.{length_of_two, length_of_four}
use Rattle.schema_rules.proofs.size.size_of.Goals as goal

pub returns-in-BmpString : goal.returns-in-BmpString
returns-in-BmpString c = rw c.in-BmpString.is (omega (arith, length_of_two c.args.contents.now))

pub returns-in-UniversalString : goal.returns-in-UniversalString
returns-in-UniversalString c = rw c.in-UniversalString.is (omega (arith, length_of_four c.args.contents.now))
