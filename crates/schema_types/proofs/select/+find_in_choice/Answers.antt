use Rattle.std.proofs.Common.{◌≡◌, slice_get, Option, Some, IfSome, IfNone, subst, ⊎_elim, arith}
use Rattle.std.proofs.lemmas.Bool.{cases_lt}
use Rattle.schema_types.specs.Table.{table_in}
use Rattle.schema_types.specs.Tags.{SelectsOne}
use Rattle.schema_types.specs.Sought.{IsMet, IsFound, FindsNone}
use Rattle.schema_types.specs.declared.node_kind.NodeKind.TheVariants.{Choice}
use Rattle.schema_types.specs.declared.field.Field.{Field}
use Rattle.schema_types.specs.declared.selected.Selected.{Selected}
use Rattle.schema_types.proofs.TagLemmas.{same_row, kind_parts, selects_through, selects_none_through}
use Rattle.schema_types.proofs.select.+find_in_choice.Goals.{in-Choice, in_default}
use Rattle.schema_types.proofs.select.+find_in_choice.Goals as goal

pub find_in_choice-found-requires : goal.find_in_choice-found-requires
find_in_choice-found-requires t c =
    let before = c.requires.nested c.args.index c.loop-k.k c.field-alternative.result
    (record {
      outer = c.args.choice;
      row = c.requires.there;
      choice = c.requires.kind;
      field = record { part = (c.loop-k.auto.k, omega arith); row = c.field-alternative.ensures.value };
      inner = c.node-node.result;
      inner_row = c.node-node.ensures.value;
      inner_choice = c.in-Choice.is;
    }) in
    (omega (arith, before, c.decreases), (c.requires.nested, (c.node-node.ensures.value, (c.in-Choice.is, kind_parts c.args.rows.now.counts c.node-node.result Choice c.in-Choice.is c.node-node.ensures.fits.parts))))

pub returns-in-Some-clause-found : goal.returns-in-Some-clause-found
returns-in-Some-clause-found t c =
    let found : IfSome c.match-node.found (IsFound (table_in c.args.rows.now.octets.now) c.field-alternative.result.node c.args.sought) =
    elim c.match-node.branch [
      | in-Choice w ↦ rw w.found-is w.find_in_choice-found.ensures.found
      | in_default w ↦ rw w.found-is w.find_itself-found.ensures.found
    ] in
    rw c.through.ensures (selects_through c.requires.there (IsMet c.args.sought) c.requires.kind
    (record { part = (c.loop-k.auto.k, omega arith); row = c.field-alternative.ensures.value })
    (subst (λ (o : Option Selected). IfSome o (IsFound (table_in c.args.rows.now.octets.now) c.field-alternative.result.node c.args.sought)) c.in-Some.is found))

pub loop-k-preserved : goal.loop-k-preserved
loop-k-preserved t c k f lt field via m s =
    let none : IfNone c.match-node.found (FindsNone (table_in c.args.rows.now.octets.now) c.field-alternative.result.node c.args.sought) =
    elim c.match-node.branch [
      | in-Choice w ↦ rw w.found-is w.find_in_choice-found.ensures.none
      | in_default w ↦ rw w.found-is w.find_itself-found.ensures.none
    ] in
    ⊎_elim
    (λ before. c.loop-k.invariant k f before field via m s)
    (λ after. let e : k ≡ c.loop-k.k = omega arith in
    let there : slice_get (table_in c.args.rows.now.octets.now).fields k ≡ Some c.field-alternative.result = rw e c.field-alternative.ensures.value in
    let same = same_row (table_in c.args.rows.now.octets.now).fields k field.row there in
    subst (λ (o : Option Selected). IfNone o (FindsNone (table_in c.args.rows.now.octets.now) c.field-alternative.result.node c.args.sought)) c.in_default-found.is none via m
    (subst (λ (x : Field). SelectsOne (table_in c.args.rows.now.octets.now) (IsMet c.args.sought) x.node via m) same s))
    (cases_lt k c.loop-k.k)

pub returns-clause-none : goal.returns-clause-none
returns-clause-none t c =
    selects_none_through c.requires.there (IsMet c.args.sought) c.requires.kind
    (λ k f field. c.loop-k.invariant k f (omega (arith, field.part.1)) field)
