use Rattle.std.proofs.Common.{◌-◌}
use Rattle.der_core.specs.Walk.{walk_state}
use Rattle.der_core.proofs.TagReadLemmas.{NumberSoFar}
use Rattle.der_core.proofs.length.indefinite.walk.Walk.read_long_number.Given as goal

abbrev pub invariant-octets : goal.invariant-octets
invariant-octets l = NumberSoFar (walk_state l.fn.self) (walk_state l.self) l.number

abbrev pub decreases-octets : goal.decreases-octets
decreases-octets l = (walk_state l.self).end - (walk_state l.self).position
