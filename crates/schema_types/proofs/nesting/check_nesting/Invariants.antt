use Rattle.std.proofs.Common.{ℕ, ◌<◌}
use Rattle.schema_types.specs.Table.{table_in}
use Rattle.schema_types.specs.Distinct.{IsAfter}
use Rattle.schema_types.proofs.nesting.check_nesting.Given as goal

abbrev pub invariant-loop-i : goal.invariant-loop-i
invariant-loop-i l = (i : ℕ) → i < l.i → (k : ℕ) → IsAfter (table_in l.rows.octets.now) i k
