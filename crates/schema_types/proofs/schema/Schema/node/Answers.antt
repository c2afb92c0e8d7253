use Rattle.std.proofs.Common.{◌≡◌, ◌∙◌, slice_get, Some, sym, ap, subst}
use Rattle.schema_types.specs.Counts.{nodes_at}
use Rattle.schema_types.specs.Node.{node_at}
use Rattle.schema_types.specs.Table.{rows, table_with}
use Rattle.schema_types.specs.declared.counts.Counts.{Counts}
use Rattle.schema_types.specs.declared.node.Node.{Node}
use Rattle.schema_types.proofs.RowLemmas.{rows_get}
use Rattle.schema_types.proofs.schema.Schema.node.Goals as goal

pub returns-clause-value : goal.returns-clause-value
returns-clause-value c =
    let s = c.args.self.now in
    let e : slice_get (rows node_at 40 nodes_at s.counts.nodes s.octets.now) c.args.index ≡ Some c.read.result =
    rows_get node_at 40 nodes_at s.counts.nodes c.args.index s.octets.now c.requires ∙ ap (λ (x : Node). Some x) (sym (c.read.ensures)) in
    subst (λ (n : Counts). slice_get (table_with n s.octets.now).nodes c.args.index ≡ Some c.read.result) s.counted e
