use Rattle.std.proofs.Common.{◌≤◌}
use Rattle.der_asn1.specs.NamedBits.{bit_count}
use Rattle.schema_rules.specs.Characters.{AreZeroFrom}
use Rattle.schema_write.proofs.bits.count_to_last_one.Given as goal

abbrev pub invariant-loop-count : goal.invariant-loop-count
invariant-loop-count l = record {
  there : l.count ≤ bit_count l.contents;
  zero : AreZeroFrom l.count l.contents;
}

abbrev pub decreases-loop-count : goal.decreases-loop-count
decreases-loop-count l = l.count
