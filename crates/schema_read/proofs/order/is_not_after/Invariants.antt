use Rattle.std.proofs.Common.{◌≡◌, drop}
use Rattle.schema_read.specs.Items.{not_after}
use Rattle.schema_read.proofs.order.is_not_after.Given as goal

abbrev pub invariant-loop-i : goal.invariant-loop-i
invariant-loop-i l = not_after (drop l.i l.a) (drop l.i l.b) ≡ not_after l.a l.b
