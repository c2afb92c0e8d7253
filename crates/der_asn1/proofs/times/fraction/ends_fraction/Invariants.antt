use Rattle.std.proofs.Common.{◌≡◌, false, length}
use Rattle.der_asn1.specs.FractionalTime.{ends_fraction}
use Rattle.der_asn1.proofs.times.fraction.ends_fraction.Given as goal

abbrev pub invariant-digits : goal.invariant-digits
invariant-digits l = ends_fraction false l.octets ≡ ends_fraction l.may_end l.rest

abbrev pub decreases-digits : goal.decreases-digits
decreases-digits l = length l.rest
