use Rattle.std.proofs.Common.{◌≡◌, ◌+◌, ◌*◌, ◌∙◌, slice_get, Some, sym, ap, subst}
use Rattle.schema_types.specs.Counts.{opens_at}
use Rattle.schema_types.specs.OpenType.{open_type_at}
use Rattle.schema_types.specs.Table.{rows, table_with}
use Rattle.schema_types.specs.declared.counts.Counts.{Counts}
use Rattle.schema_types.specs.declared.open_type.OpenType.{OpenType}
use Rattle.schema_types.proofs.RowLemmas.{rows_get}
use Rattle.schema_types.proofs.schema.Schema.open_type.Goals as goal

pub returns-clause-value : goal.returns-clause-value
returns-clause-value c =
    let s = c.args.self.now in
    let e : slice_get (rows open_type_at 12 (opens_at s.counts) s.counts.opens s.octets.now) c.args.index ≡ Some c.read.result =
    rows_get open_type_at 12 (opens_at s.counts) s.counts.opens c.args.index s.octets.now c.requires ∙ ap (λ (x : OpenType). Some x) (sym (c.read.ensures ∙ ap (λ n. open_type_at s.octets.now (n + 12 * c.args.index)) c.opens_at.ensures)) in
    subst (λ (n : Counts). slice_get (table_with n s.octets.now).opens c.args.index ≡ Some c.read.result) s.counted e
