use Rattle.std.proofs.Common.{ℕ, ◌<◌}
use Rattle.schema_types.specs.Table.{table_in}
use Rattle.schema_types.specs.Tags.{IsFieldOf}
use Rattle.schema_types.specs.Sought.{FindsNone}
use Rattle.schema_types.specs.declared.field.Field.{Field}
use Rattle.schema_types.proofs.select.+find_in_choice.Given as goal

abbrev pub invariant-loop-k : goal.invariant-loop-k
invariant-loop-k l = (k : ℕ) (f : Field) → k < l.k → IsFieldOf (table_in l.rows.octets.now) l.fn.choice k f → FindsNone (table_in l.rows.octets.now) f.node l.sought

abbrev pub decreases-find_in_choice : goal.decreases-find_in_choice
decreases-find_in_choice l = l.index
