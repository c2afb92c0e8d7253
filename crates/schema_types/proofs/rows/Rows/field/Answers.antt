use Rattle.std.proofs.Common.{◌≡◌, ◌+◌, ◌*◌, ◌∙◌, slice_get, Some, sym, ap, subst}
use Rattle.schema_types.specs.Counts.{fields_at}
use Rattle.schema_types.specs.Field.{field_at}
use Rattle.schema_types.specs.Table.{rows, table_with}
use Rattle.schema_types.specs.declared.counts.Counts.{Counts}
use Rattle.schema_types.specs.declared.field.Field.{Field}
use Rattle.schema_types.proofs.RowLemmas.{rows_get}
use Rattle.schema_types.proofs.rows.Rows.field.Goals as goal

pub returns-clause-value : goal.returns-clause-value
returns-clause-value c =
    let s = c.args.self.now in
    let e : slice_get (rows field_at 28 (fields_at s.counts) s.counts.fields s.octets.now) c.args.index ≡ Some c.read.result =
    rows_get field_at 28 (fields_at s.counts) s.counts.fields c.args.index s.octets.now c.requires ∙ ap (λ (x : Field). Some x) (sym (c.read.ensures ∙ ap (λ n. field_at s.octets.now (n + 28 * c.args.index)) c.fields_at.ensures)) in
    subst (λ (n : Counts). slice_get (table_with n s.octets.now).fields c.args.index ≡ Some c.read.result) s.counted e
