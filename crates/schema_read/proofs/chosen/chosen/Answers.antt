use Rattle.std.proofs.Common.{◌≡◌, ◌∙◌, Some, refl, sym, ap, subst}
use Rattle.schema_types.specs.Chosen.{ChoosesRow}
use Rattle.schema_types.specs.declared.open_type.OpenType.{OpenType}
use Rattle.schema_read.specs.Types.{types_in}
use Rattle.schema_read.specs.Known.{known_in}
use Rattle.schema_read.proofs.KnownLemmas.{same_identifier}
use Rattle.schema_read.proofs.chosen.chosen.Goals as goal

pub returns-in-Some-find_type-clause-found : goal.returns-in-Some-find_type-clause-found
returns-in-Some-find_type-clause-found c = record {
  identifier = c.in-Some.known.identifier.now;
  by = ap known_in c.in-Some.is ∙ ap (λ f. Some (f, c.in-Some.known.identifier.now)) c.if-known-node.true;
  type = c.in-Some-find_type.chosen;
  row = c.in-Some-find_type.ensures.found;
  node = refl;
}

pub returns-in-Some-find_type-clause-single : goal.returns-in-Some-find_type-clause-single
returns-in-Some-find_type-clause-single c o is =
    let same : c.in-Some.known.identifier.now ≡ is.identifier = same_identifier (ap known_in c.in-Some.is) is.by in
    is.node ∙ ap (λ (p : OpenType). p.node) (c.in-Some-find_type.ensures.single is.type (subst (λ id. ChoosesRow (types_in c.args.schema.now.octets.now) c.args.node.now.parts id is.type) (sym same) is.row))

pub returns-in-None-clause-none : goal.returns-in-None-clause-none
returns-in-None-clause-none c kind m is =
    let same : c.in-Some.known.identifier.now ≡ is.identifier = same_identifier (ap known_in c.in-Some.is) is.by in
    c.in-None.ensures.none is.row.index is.type is.row.part is.row.row (is.row.same ∙ sym same)
