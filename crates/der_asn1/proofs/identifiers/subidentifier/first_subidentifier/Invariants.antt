use Rattle.std.proofs.Common.{length, ◌-◌}
use Rattle.der_asn1.proofs.ArcLemmas.{IsReadingSubidentifier}
use Rattle.der_asn1.proofs.identifiers.subidentifier.first_subidentifier.Given as goal

abbrev pub invariant-octets : goal.invariant-octets
invariant-octets l = IsReadingSubidentifier l.octets l.number l.at

abbrev pub decreases-octets : goal.decreases-octets
decreases-octets l = length l.octets - l.at
