use Rattle.std.proofs.Common.{[]}
use Rattle.der_c_core.specs.CReader.{reader_state}
use Rattle.der_c_core.specs.Around.{WalksNodes}
use Rattle.der_c_core.proofs.tree.walk.climb.Given as goal

abbrev pub invariant-loop-around : goal.invariant-loop-around
invariant-loop-around l = WalksNodes l.fn.around (reader_state l.fn.reader) [] l.around (reader_state l.reader)

abbrev pub decreases-loop-around : goal.decreases-loop-around
decreases-loop-around l = l.around.level
