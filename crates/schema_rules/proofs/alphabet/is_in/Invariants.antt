use Rattle.std.proofs.Common.{◌≡◌, drop}
use Rattle.schema_rules.specs.Characters.{is_in_ranges}
use Rattle.schema_rules.proofs.alphabet.is_in.Given as goal

abbrev pub invariant-loop-range : goal.invariant-loop-range
invariant-loop-range l = is_in_ranges l.ranges l.code ≡ is_in_ranges (drop l.range-index l.ranges) l.code
