use Rattle.std.proofs.Common.{ℕ, ◌<◌}
use Rattle.schema_types.specs.Table.{table_in}
use Rattle.schema_types.specs.Distinct.{IsAfter}
use Rattle.schema_types.proofs.nesting.check_alternatives.Given as goal

abbrev pub invariant-loop-k : goal.invariant-loop-k
invariant-loop-k l = (k : ℕ) → k < l.k → IsAfter (table_in l.rows.octets.now) l.index k
