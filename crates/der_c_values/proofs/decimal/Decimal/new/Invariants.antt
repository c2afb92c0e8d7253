use Rattle.der_c_values.proofs.DecimalLemmas.{IsBuilding}
use Rattle.der_c_values.proofs.decimal.Decimal.new.Given as goal

abbrev pub invariant-digits : goal.invariant-digits
invariant-digits l = IsBuilding l.number l.octets l.start l.left

abbrev pub decreases-digits : goal.decreases-digits
decreases-digits l = l.left
