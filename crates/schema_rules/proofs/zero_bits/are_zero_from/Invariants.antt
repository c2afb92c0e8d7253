use Rattle.std.proofs.Common.{◌≡◌, ◌<◌, ◌≤◌, ℕ, false}
use Rattle.der_asn1.specs.NamedBits.{has_bit}
use Rattle.schema_rules.proofs.zero_bits.are_zero_from.Given as goal

abbrev pub invariant-loop-n : goal.invariant-loop-n
invariant-loop-n l = (k : ℕ) → l.first ≤ k → k < l.n → has_bit k l.contents ≡ false
