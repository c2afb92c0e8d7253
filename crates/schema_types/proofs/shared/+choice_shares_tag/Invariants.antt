use Rattle.std.proofs.Common.{ℕ, ◌<◌}
use Rattle.schema_types.specs.Table.{table_in}
use Rattle.schema_types.specs.Tags.{IsFieldOf, AreApart}
use Rattle.schema_types.specs.declared.field.Field.{Field}
use Rattle.schema_types.proofs.shared.+choice_shares_tag.Given as goal

abbrev pub invariant-loop-k : goal.invariant-loop-k
invariant-loop-k l = (k : ℕ) (f : Field) → k < l.k → IsFieldOf (table_in l.rows.octets.now) l.fn.choice k f → AreApart (table_in l.rows.octets.now) f.node l.second

abbrev pub decreases-choice_shares_tag : goal.decreases-choice_shares_tag
decreases-choice_shares_tag l = l.index
