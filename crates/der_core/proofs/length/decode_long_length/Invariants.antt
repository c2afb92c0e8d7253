use Rattle.der_core.proofs.LengthReadLemmas.{DigitsSoFar}
use Rattle.der_core.proofs.length.decode_long_length.Given as goal

abbrev pub invariant-loop-i : goal.invariant-loop-i
invariant-loop-i g l = DigitsSoFar (g.R.Reader.state l.fn.reader) (g.R.Reader.state l.reader) l.i l.number
