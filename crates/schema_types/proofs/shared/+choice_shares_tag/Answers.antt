use Rattle.std.proofs.Common.{◌↔◌, IsTrue, refl, arith}
use Rattle.schema_types.specs.Table.{table_in}
use Rattle.schema_types.specs.Tags.{ShareTag}
use Rattle.schema_types.specs.declared.node_kind.NodeKind.TheVariants.{Choice}
use Rattle.schema_types.proofs.TagLemmas.{kind_parts, share_through, share_none_through}
use Rattle.schema_types.proofs.shared.+choice_shares_tag.Goals.{in-Choice, in_default}
use Rattle.schema_types.proofs.shared.+choice_shares_tag.Goals as goal

pub choice_shares_tag-shares-requires : goal.choice_shares_tag-shares-requires
choice_shares_tag-shares-requires t c =
    let before = c.requires.nested c.args.index c.loop-k.k c.field-alternative.result
    (record {
      outer = c.args.choice;
      row = c.requires.there;
      choice = c.requires.kind;
      field = record { part = (c.loop-k.auto.k, omega arith); row = c.field-alternative.ensures.value };
      inner = c.node-node.result;
      inner_row = c.node-node.ensures.value;
      inner_choice = c.in-Choice.is;
    }) in
    (omega (arith, before, c.decreases), (c.requires.nested, (c.node-node.ensures.value, (c.in-Choice.is, (kind_parts c.args.rows.now.counts c.node-node.result Choice c.in-Choice.is c.node-node.ensures.fits.parts, c.requires.also)))))

pub returns-then-shares : goal.returns-then-shares
returns-then-shares t c =
    let share : IsTrue c.match-node.shares ↔ ShareTag (table_in c.args.rows.now.octets.now) c.field-alternative.result.node c.args.second =
    elim c.match-node.branch [
      | in-Choice w ↦ rw w.shares-is w.choice_shares_tag-shares.ensures
      | in_default w ↦ rw w.shares-is w.node_shares_tag-shares.ensures
    ] in
    (λ _. share_through c.requires.there c.requires.kind (record { part = (c.loop-k.auto.k, omega arith); row = c.field-alternative.ensures.value }) (share.0 c.if-shares.true), λ _. refl)

pub returns : goal.returns
returns t c =
    (λ e. cc, λ share. absurd (share_none_through c.requires.there c.requires.kind (λ k f field. c.loop-k.invariant k f (omega (arith, field.part.1)) field) share))
