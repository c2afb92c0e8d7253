use Rattle.std.proofs.Common.{◌≡◌, ◌<◌, ℕ, ⊎_elim, Some, slice_get, sym, ◌∙◌, subst, false, arith}
use Rattle.std.proofs.lemmas.Bool.{cases_lt}
use Rattle.schema_types.specs.Distinct.{may_be_missing}
use Rattle.schema_types.specs.declared.node_kind.NodeKind.TheVariants.{Universal as Universally}
use Rattle.ber.specs.declared.universal.Universal.TheVariants.{Sequence}
use Rattle.schema_types.specs.Tags.{IsFieldOf}
use Rattle.schema_types.specs.declared.field.Field.{Field}
use Rattle.schema_read.specs.Components.{MayBeAbsent}
use Rattle.schema_read.specs.Tags.{NoneBegins}
use Rattle.schema_read.specs.Types.{types_in}
use Rattle.schema_read.proofs.AdditionLemmas.{pass_one}
use Rattle.schema_read.proofs.select.find_next.Goals as goal

pub loop-k-preserved : goal.loop-k-preserved
loop-k-preserved c = record {
  none = λ k f low high is. ⊎_elim (λ less. c.loop-k.invariant.none k f low less is) (λ over. here k f is (omega (arith, high, over))) (cases_lt k c.loop-k.k);
  passed = λ l g low high is. pass_one c.loop-k.invariant.passed c.field_of-field.ensures.value may l g low (omega (arith, high)) is;
}
  where
    may : MayBeAbsent c.field_of-field.result
    may = sym c.may_be_absent.ensures ∙ c.if-not-may_be_absent.false

    here : (k : ℕ) (f : Field) → IsFieldOf (types_in c.args.schema.now.octets.now) c.args.node k f → k ≡ c.loop-k.k → NoneBegins (types_in c.args.schema.now.octets.now) f.node c.args.octets.now
    here k f is e =
        let row : slice_get (types_in c.args.schema.now.octets.now).fields c.loop-k.k ≡ Some f = subst (λ q. slice_get (types_in c.args.schema.now.octets.now).fields q ≡ Some f) e is.row in
        let both : Some c.field_of-field.result ≡ Some f = sym c.field_of-field.ensures.value ∙ row in
        let it : c.field_of-field.result ≡ f = cc in
        subst (λ (g : Field). NoneBegins (types_in c.args.schema.now.octets.now) g.node c.args.octets.now) it (c.begins.ensures.none c.if-begins.false)

pub returns-then-not-may_be_absent-clause-none : goal.returns-then-not-may_be_absent-clause-none
returns-then-not-may_be_absent-clause-none c k f low is passed =
    ⊎_elim (λ less. c.loop-k.invariant.none k f low less is)
    (λ over. ⊎_elim later (λ least. here (omega (arith, over, least))) (cases_lt c.loop-k.k k))
    (cases_lt k c.loop-k.k)
  where
    later : c.loop-k.k < k → NoneBegins (types_in c.args.schema.now.octets.now) f.node c.args.octets.now
    later more =
        let at : IsFieldOf (types_in c.args.schema.now.octets.now) c.args.node c.loop-k.k c.field_of-field.result =
        record { part = (omega (arith, c.requires.part, c.loop-k.auto.k), omega (arith, c.loop-k-test.true, c.end_of-k-end.ensures)); row = c.field_of-field.ensures.value } in
        let yes : MayBeAbsent c.field_of-field.result = passed c.loop-k.k c.field_of-field.result (omega (arith, c.loop-k.auto.k)) more at in
        let no : may_be_missing (Universally Sequence) c.field_of-field.result ≡ false = sym c.may_be_absent.ensures ∙ c.if-not-may_be_absent.true in
        absurd (cc)

    here : k ≡ c.loop-k.k → NoneBegins (types_in c.args.schema.now.octets.now) f.node c.args.octets.now
    here e =
        let row : slice_get (types_in c.args.schema.now.octets.now).fields c.loop-k.k ≡ Some f = subst (λ q. slice_get (types_in c.args.schema.now.octets.now).fields q ≡ Some f) e is.row in
        let both : Some c.field_of-field.result ≡ Some f = sym c.field_of-field.ensures.value ∙ row in
        let it : c.field_of-field.result ≡ f = cc in
        subst (λ (g : Field). NoneBegins (types_in c.args.schema.now.octets.now) g.node c.args.octets.now) it (c.begins.ensures.none c.if-begins.false)

pub returns-clause-none : goal.returns-clause-none
returns-clause-none c k f low is passed =
    c.loop-k.invariant.none k f low (omega (arith, is.part.1, c.loop-k-test.false, c.end_of-k-end.ensures)) is
