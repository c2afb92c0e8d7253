use Rattle.std.proofs.Common.{ℕ, ◌<◌, ◌≤◌, length, take}
use Rattle.std.specs.Str.{IsUtf8}
use Rattle.der_c_values.proofs.character.first_utf8.Given as goal

abbrev pub invariant-loop-count : goal.invariant-loop-count
invariant-loop-count l = (k : ℕ) → 0 < k → k < l.count → k ≤ length l.octets → IsUtf8 (take k l.octets) → ⊥
