use Rattle.std.proofs.Common.{◌≡◌, ⊎_elim, Some, slice_get, sym, ◌∙◌, subst, arith}
use Rattle.std.proofs.lemmas.Bool.{cases_lt}
use Rattle.schema_types.specs.declared.field.Field.{Field}
use Rattle.schema_read.specs.Tags.{NoneBegins}
use Rattle.schema_read.specs.Types.{types_in}
use Rattle.schema_read.proofs.select.find_field.Goals as goal

pub loop-k-preserved : goal.loop-k-preserved
loop-k-preserved c k f low high is =
    ⊎_elim (λ less. c.loop-k.invariant k f low less is) (λ over. here (omega (arith, high, over))) (cases_lt k c.loop-k.k)
  where
    here : k ≡ c.loop-k.k → NoneBegins (types_in c.args.schema.now.octets.now) f.node c.args.octets.now
    here e =
        let row : slice_get (types_in c.args.schema.now.octets.now).fields c.loop-k.k ≡ Some f = subst (λ q. slice_get (types_in c.args.schema.now.octets.now).fields q ≡ Some f) e is.row in
        let both : Some c.field_of.result ≡ Some f = sym c.field_of.ensures.value ∙ row in
        let it : c.field_of.result ≡ f = cc in
        subst (λ (g : Field). NoneBegins (types_in c.args.schema.now.octets.now) g.node c.args.octets.now) it (c.begins.ensures.none c.if-begins.false)

pub returns-clause-none : goal.returns-clause-none
returns-clause-none c k f low is =
    c.loop-k.invariant k f low (omega (arith, is.part.1, c.loop-k-test.false, c.end_of-k-end.ensures)) is
