use Rattle.std.proofs.Common.{refl}
use Rattle.std.proofs.lemmas.Result.{err_from_is_err_and}
use Rattle.der_core.proofs.NestedLemmas.{enter_ok, value_opened, value_not_opened}
use Rattle.der_core.proofs.reader.value.read_contents.Goals as goal

pub returns-in_err-outer-clause-exact : goal.returns-in_err-outer-clause-exact
returns-in_err-outer-clause-exact g c =
    let p = err_from_is_err_and c.from_residual.result c.from_residual.ensures.1 in
    rw (p.1) (λ owed. value_not_opened _ _ c.args.length c.args.length _ _ refl (c.in_err-outer.ensures.exact owed) p.2)

pub returns-clause-exact : goal.returns-clause-exact
returns-clause-exact g c owed =
    value_opened (g.R.Reader.state c.args.reader.now) c.args.length c.args.length _ c.f-answer.result _ _ (enter_ok c.in_ok-outer.ensures.exact) refl c.f-answer.ensures refl
    (c.close_value.ensures.exact owed)
