use Rattle.std.proofs.Common.{◌-◌, length}
use Rattle.der_c_values.proofs.DottedArcLemmas.{IsReadingDigits}
use Rattle.der_c_values.proofs.dotted_arc.DottedArc.read.Given as goal

abbrev pub invariant-digits : goal.invariant-digits
invariant-digits l = IsReadingDigits l.text l.at l.number l.end

abbrev pub decreases-digits : goal.decreases-digits
decreases-digits l = length l.text - l.end
