use Rattle.ber.proofs.TagNumberLemmas.{IsSoFar}
use Rattle.ber.proofs.tag_number.tag_number.Given as goal

abbrev pub invariant-loop-i : goal.invariant-loop-i
invariant-loop-i l = IsSoFar l.i l.number l.octets
