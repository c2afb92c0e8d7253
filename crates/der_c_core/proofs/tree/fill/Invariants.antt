use Rattle.der_c_core.specs.CReader.{reader_state}
use Rattle.der_c_core.proofs.TreeWalkLemmas.{Walked}
use Rattle.der_c_core.proofs.tree.fill.Given as goal

abbrev pub invariant-loop-i : goal.invariant-loop-i
invariant-loop-i l = Walked (reader_state l.reader) l.fn.nodes l.i l.nodes l.around (reader_state l.walk)
