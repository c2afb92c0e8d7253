use Rattle.std.proofs.Common.{refl}
use Rattle.std.proofs.lemmas.Result.{err_from_is_err_and}
use Rattle.der_core.specs.Nested.{not_entered}
use Rattle.der_core.proofs.NestedLemmas.{Entered, enter_ok, same_closed, nested_entered}
use Rattle.der_core.proofs.reader.extension.ReaderExt.read_nested.Goals as goal

pub returns-in_err-outer-clause-exact : goal.returns-in_err-outer-clause-exact
returns-in_err-outer-clause-exact g c =
    let p = err_from_is_err_and c.from_residual.result c.from_residual.ensures.1 in
    rw (p.1) (λ owed. not_entered _ _ (c.in_err-outer.ensures.exact owed) p.2 refl)

pub returns-clause-exact : goal.returns-clause-exact
returns-clause-exact g c owed =
    nested_entered (g.Self.Reader.state c.args.self.now) _ c.f-answer.result _ c.close_nested.result _ (enter_ok c.in_ok-outer.ensures.exact) refl c.f-answer.ensures c.close_nested.ensures.exact refl

pub returns-clause-same : goal.returns-clause-same
returns-clause-same g c =
    let way : Entered (g.Self.Reader.state c.args.self.now) _ _ _ (g.Self.Reader.state c.enter_nested.new.self) = enter_ok c.in_ok-outer.ensures.exact in
    same_closed way (c.requires.same _ _ _ way.can way.state c.f-answer.ensures) c.close_nested.ensures.same
