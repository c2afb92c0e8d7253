use Rattle.std.proofs.Common.{◌≡◌, ◌+◌, ◌*◌, ◌∙◌, slice_get, Some, sym, ap, subst}
use Rattle.schema_types.specs.Counts.{names_at}
use Rattle.schema_types.specs.Name.{name_at}
use Rattle.schema_types.specs.Table.{rows, table_with}
use Rattle.schema_types.specs.declared.counts.Counts.{Counts}
use Rattle.schema_types.specs.declared.name.Name.{Name}
use Rattle.schema_types.proofs.RowLemmas.{rows_get}
use Rattle.schema_types.proofs.schema.Schema.name.Goals as goal

pub returns-clause-value : goal.returns-clause-value
returns-clause-value c =
    let s = c.args.self.now in
    let e : slice_get (rows name_at 16 (names_at s.counts) s.counts.names s.octets.now) c.args.index ≡ Some c.read.result =
    rows_get name_at 16 (names_at s.counts) s.counts.names c.args.index s.octets.now c.requires ∙ ap (λ (x : Name). Some x) (sym (c.read.ensures ∙ ap (λ n. name_at s.octets.now (n + 16 * c.args.index)) c.names_at.ensures)) in
    subst (λ (n : Counts). slice_get (table_with n s.octets.now).names c.args.index ≡ Some c.read.result) s.counted e
