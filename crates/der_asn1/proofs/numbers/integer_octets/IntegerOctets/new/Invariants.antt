use Rattle.der_asn1.proofs.IntegerLemmas.{IsBuilding}
use Rattle.der_asn1.proofs.numbers.integer_octets.IntegerOctets.new.Given as goal

abbrev pub invariant-digits : goal.invariant-digits
invariant-digits l = IsBuilding l.negative l.magnitude l.octets l.start l.left

abbrev pub decreases-digits : goal.decreases-digits
decreases-digits l = l.left
