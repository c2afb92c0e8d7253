use Rattle.std.proofs.Common.{arith}
use Rattle.der_asn1.proofs.IntegerLemmas.{building_continues}
use Rattle.der_asn1.proofs.numbers.integer_octets.IntegerOctets.new.Goals as goal

pub digits-preserved : goal.digits-preserved
digits-preserved c = building_continues c.turned_octet.result c.digits.invariant (omega (arith, c.digits-test.true)) c.turned_octet.ensures
