use Rattle.std.proofs.Common.{◌≡◌, ℕ, ◌<◌, slice_get, Some}
use Rattle.schema_types.specs.NodeKind.{is_choice}
use Rattle.schema_types.specs.Table.{table_in}
use Rattle.schema_types.specs.Distinct.{IsDistinct}
use Rattle.schema_types.specs.declared.node.Node.{Node}
use Rattle.schema_types.proofs.distinct.check_nodes.Given as goal

abbrev pub invariant-loop-i : goal.invariant-loop-i
invariant-loop-i l = (i : ℕ) → i < l.i → (n : Node) → slice_get (table_in l.rows.octets.now).nodes i ≡ Some n → is_choice n.kind ≡ l.choices → (k : ℕ) → IsDistinct (table_in l.rows.octets.now) n k
