use Rattle.std.proofs.Common.{◌≡◌, ◌∙◌, ◌-◌, true, false, slice_get, Some, sym, subst, ⊎_elim, arith}
use Rattle.std.proofs.lemmas.Bool.{cases_lt}
use Rattle.schema_types.specs.Table.{table_in}
use Rattle.schema_types.specs.Tags.{ShareTag}
use Rattle.schema_types.specs.Distinct.{may_be_missing, same_tag}
use Rattle.schema_types.specs.declared.field.Field.{Field}
use Rattle.schema_types.proofs.TagLemmas.{same_row}
use Rattle.schema_types.proofs.distinct.check_field.Goals as goal

pub returns-then-not-may_be_missing-clause-ok : goal.returns-then-not-may_be_missing-clause-ok
returns-then-not-may_be_missing-clause-ok c j f g follow share =
    let t = table_in c.args.rows.now.octets.now in
    let same = same_row t.fields c.args.k follow.later.row c.field-later.ensures.value in
    ⊎_elim
    (λ before. let missing : may_be_missing c.args.node.kind c.field-earlier.result ≡ true = follow.missing (c.earlier.j - 1) c.field-earlier.result (omega arith) (omega arith) (record { part = (omega arith, omega (arith, c.requires.part.1)); row = c.field-earlier.ensures.value }) in
    let e : false ≡ true = sym c.if-not-may_be_missing.true ∙ c.may_be_missing.ensures ∙ missing in
    cc)
    (λ after. c.earlier.invariant.apart j f after follow.before follow.earlier (subst (λ (x : Field). ShareTag t f.node x.node) same share))
    (cases_lt j c.earlier.j)

pub returns-then-share_tag-clause-fault : goal.returns-then-share_tag-clause-fault
returns-then-share_tag-clause-fault c =
    let t = table_in c.args.rows.now.octets.now in
    rw (c.new.ensures, c.fields_at.ensures) (same_tag c.args.index (c.earlier.j - 1) c.args.k c.args.node c.field-earlier.result c.field-later.result c.requires.there
    (record {
      earlier = record { part = (omega arith, omega (arith, c.requires.part.1)); row = c.field-earlier.ensures.value };
      later = record { part = c.requires.part; row = c.field-later.ensures.value };
      before = omega arith;
      missing = λ l h a b field.
          ⊎_elim
          (λ less. let e : l ≡ c.earlier.j - 1 = omega arith in
          let there : slice_get t.fields l ≡ Some c.field-earlier.result = rw e c.field-earlier.ensures.value in
          let same = same_row t.fields l field.row there in
          subst (λ (x : Field). may_be_missing c.args.node.kind x ≡ true) (sym same) (sym c.may_be_missing.ensures ∙ c.if-not-may_be_missing.false))
          (λ more. c.earlier.invariant.missing l h more b field)
          (cases_lt l c.earlier.j);
    }) (c.share_tag.ensures.0 c.if-share_tag.true))

pub returns-clause-ok : goal.returns-clause-ok
returns-clause-ok c j f g follow share =
    let t = table_in c.args.rows.now.octets.now in
    let same = same_row t.fields c.args.k follow.later.row c.field-later.ensures.value in
    c.earlier.invariant.apart j f (omega (arith, follow.earlier.part.0)) follow.before follow.earlier (subst (λ (x : Field). ShareTag t f.node x.node) same share)
