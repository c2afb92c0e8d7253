use Rattle.der_core.specs.Walk.{walk_state}
use Rattle.der_core.proofs.LengthReadLemmas.{DigitsSoFar}
use Rattle.der_core.proofs.length.indefinite.walk.Walk.read_definite.Given as goal

abbrev pub invariant-loop-i : goal.invariant-loop-i
invariant-loop-i l = DigitsSoFar (walk_state l.fn.self) (walk_state l.self) l.i l.value
