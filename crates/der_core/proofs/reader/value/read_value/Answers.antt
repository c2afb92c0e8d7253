use Rattle.std.proofs.Common.{refl, ap, ◌∙◌}
use Rattle.std.proofs.lemmas.Result.{err_from_is_err_and}
use Rattle.der_base.specs.Arithmetic.{sans_eoc}
use Rattle.der_base.specs.Length.{number}
use Rattle.der_core.specs.declared.header.Header.{Header}
use Rattle.der_core.proofs.NestedLemmas.{Entered, enter_ok, entered_at, can_leave, same_closed, value_opened, value_not_opened}
use Rattle.der_core.proofs.reader.value.read_value.Goals as goal

pub returns-in_err-outer-clause-exact : goal.returns-in_err-outer-clause-exact
returns-in_err-outer-clause-exact g c =
    let p = err_from_is_err_and c.from_residual.result c.from_residual.ensures.1 in
    rw (p.1)
    (λ owed. value_not_opened _ _ (sans_eoc c.args.header.length) c.length-length.result _ _ (c.length-length.ensures ∙ ap (λ (h : Header). h.length) c.contents-contents.ensures)
    (c.in_err-outer.ensures.exact owed) p.2)

pub returns-clause-exact : goal.returns-clause-exact
returns-clause-exact g c owed =
    value_opened (g.R.Reader.state c.args.reader.now) (sans_eoc c.args.header.length) c.length-length.result _ c.f-answer.result _ _ (enter_ok c.in_ok-outer.ensures.exact) refl
    (c.contents-contents.result, c.contents-contents.ensures, c.f-answer.ensures) (c.length-length.ensures ∙ ap (λ (h : Header). h.length) c.contents-contents.ensures)
    (c.close_value.ensures.exact owed)

pub close_value-requires : goal.close_value-requires
close_value-requires g c =
    let way : Entered (g.R.Reader.state c.args.reader.now) (number (sans_eoc c.args.header.length)) _ _ (g.R.Reader.state c.enter_nested.new.self) =
    entered_at (c.length-length.ensures ∙ ap (λ (h : Header). h.length) c.contents-contents.ensures) (enter_ok c.in_ok-outer.ensures.exact) in
    can_leave way (g.met.R.Reader.sound_state c.args.reader.now) (c.requires.same _ _ _ way.can way.state (c.contents-contents.result, c.contents-contents.ensures, c.f-answer.ensures))

pub returns-clause-same : goal.returns-clause-same
returns-clause-same g c =
    let way : Entered (g.R.Reader.state c.args.reader.now) (number (sans_eoc c.args.header.length)) _ _ (g.R.Reader.state c.enter_nested.new.self) =
    entered_at (c.length-length.ensures ∙ ap (λ (h : Header). h.length) c.contents-contents.ensures) (enter_ok c.in_ok-outer.ensures.exact) in
    same_closed way (c.requires.same _ _ _ way.can way.state (c.contents-contents.result, c.contents-contents.ensures, c.f-answer.ensures)) c.close_value.ensures.same
