use Rattle.std.proofs.Common.{ℕ, ◌<◌}
use Rattle.schema_types.specs.Table.{table_in}
use Rattle.schema_types.specs.Distinct.{IsDistinct}
use Rattle.schema_types.proofs.distinct.check_fields.Given as goal

abbrev pub invariant-loop-k : goal.invariant-loop-k
invariant-loop-k l = (k : ℕ) → k < l.k → IsDistinct (table_in l.rows.octets.now) l.node k
