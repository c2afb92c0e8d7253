use Rattle.std.proofs.Common.{◌≡◌, length}
use Rattle.schema_rules.specs.Decimal.{after_spaces}
use Rattle.schema_rules.proofs.decimal_text.after_spaces.Given as goal

abbrev pub invariant-loop-left : goal.invariant-loop-left
invariant-loop-left l = after_spaces l.octets ≡ after_spaces l.left

abbrev pub decreases-loop-left : goal.decreases-loop-left
decreases-loop-left l = length l.left
