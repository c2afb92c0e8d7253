use Rattle.std.proofs.Common.{◌-◌}
use Rattle.der_core.proofs.TagReadLemmas.{NumberSoFar}
use Rattle.der_core.proofs.identifier.decode_long_number.Given as goal

abbrev pub invariant-octets : goal.invariant-octets
invariant-octets g l = NumberSoFar (g.R.Reader.state l.fn.reader) (g.R.Reader.state l.reader) l.number

abbrev pub decreases-octets : goal.decreases-octets
decreases-octets g l = (g.R.Reader.state l.reader).end - (g.R.Reader.state l.reader).position
