use Rattle.std.proofs.Common.{◌-◌, ◌≤◌}
use Rattle.schema_write.proofs.element.put_length.Given as goal

abbrev pub invariant-zeros : goal.invariant-zeros
invariant-zeros l = l.zeros ≤ 7

abbrev pub decreases-zeros : goal.decreases-zeros
decreases-zeros l = 7 - l.zeros
