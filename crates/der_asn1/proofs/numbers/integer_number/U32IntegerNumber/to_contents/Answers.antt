use Rattle.std.proofs.Common.{◌^◌, arith}
use Rattle.der_asn1.proofs.IntegerReadLemmas.{made_unsigned}
use Rattle.der_asn1.proofs.numbers.integer_number.U32IntegerNumber.to_contents.Goals as goal

pub returns-clause-formed : goal.returns-clause-formed
returns-clause-formed c = made_unsigned c.args.self (2 ^ 32) (omega arith)
