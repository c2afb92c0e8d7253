use Rattle.std.proofs.Common.{length}
use Rattle.ber.proofs.BodyLemmas.{IsWalk}
use Rattle.ber.proofs.body.body_len.Given as goal

abbrev pub invariant-headers : goal.invariant-headers
invariant-headers l = IsWalk l.octets l.rest l.depth

abbrev pub decreases-headers : goal.decreases-headers
decreases-headers l = length l.rest
