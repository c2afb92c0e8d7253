use Rattle.std.proofs.Common.{◌≡◌, ◌+◌, ◌*◌, ◌∙◌, slice_get, Some, sym, ap, subst}
use Rattle.schema_types.specs.Counts.{limits_at}
use Rattle.schema_types.specs.Limit.{limit_at}
use Rattle.schema_types.specs.Table.{rows, table_with}
use Rattle.schema_types.specs.declared.counts.Counts.{Counts}
use Rattle.schema_types.specs.declared.limit.Limit.{Limit}
use Rattle.schema_types.proofs.RowLemmas.{rows_get}
use Rattle.schema_types.proofs.schema.Schema.limit.Goals as goal

pub returns : goal.returns
returns c =
    let s = c.args.self.now in
    let e : slice_get (rows limit_at 20 (limits_at s.counts) s.counts.limits s.octets.now) c.args.index ≡ Some c.read.result =
    rows_get limit_at 20 (limits_at s.counts) s.counts.limits c.args.index s.octets.now c.requires ∙ ap (λ (x : Limit). Some x) (sym (c.read.ensures ∙ ap (λ n. limit_at s.octets.now (n + 20 * c.args.index)) c.limits_at.ensures)) in
    subst (λ (n : Counts). slice_get (table_with n s.octets.now).limits c.args.index ≡ Some c.read.result) s.counted e
