use Rattle.std.proofs.Common.{◌∙◌, ap}
use Rattle.ber.specs.declared.universal.Universal.{Universal}
use Rattle.ber.specs.declared.universal.Universal.TheVariants.{Sequence, Set}
use Rattle.schema_types.specs.declared.node_kind.NodeKind.TheVariants.{Universal as Universally, Choice}
use Rattle.schema_types.proofs.TagLemmas.{kind_parts}
use Rattle.schema_types.proofs.distinct.check_node.Goals as goal

pub check_fields-requires-clause-fields : goal.check_fields-requires-clause-fields
check_fields-requires-clause-fields c = kind_parts c.args.rows.now.counts c.args.node Choice c.in-Choice.is c.requires.fits.parts

pub check_fields-requires-in-Universal-Sequence-clause-fields : goal.check_fields-requires-in-Universal-Sequence-clause-fields
check_fields-requires-in-Universal-Sequence-clause-fields c =
    let e = rw c.in-Universal-Sequence.is at c.in-Universal-Sequence.field-0-is in
    kind_parts c.args.rows.now.counts c.args.node (Universally Sequence) (c.in-Universal-Sequence.is ∙ ap (λ (u : Universal). Universally u) e) c.requires.fits.parts

pub check_fields-requires-in-Universal-Set-clause-fields : goal.check_fields-requires-in-Universal-Set-clause-fields
check_fields-requires-in-Universal-Set-clause-fields c =
    let e = rw c.in-Universal-Set.is at c.in-Universal-Set.field-0-is in
    kind_parts c.args.rows.now.counts c.args.node (Universally Set) (c.in-Universal-Set.is ∙ ap (λ (u : Universal). Universally u) e) c.requires.fits.parts
