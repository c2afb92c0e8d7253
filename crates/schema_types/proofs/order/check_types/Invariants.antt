use Rattle.std.proofs.Common.{ℕ, ◌<◌, ◌≤◌}
use Rattle.schema_types.specs.OpenType.{IsBeforeNext}
use Rattle.schema_types.proofs.order.check_types.Given as goal

abbrev pub invariant-loop-k : goal.invariant-loop-k
invariant-loop-k l = (k : ℕ) → l.fn.types.start ≤ k → k < l.k → IsBeforeNext l.counts l.octets k
