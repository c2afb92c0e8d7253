use Rattle.std.proofs.Common.{refl, sym, ◌∙◌}
use Rattle.std.proofs.lemmas.Result.{err_from_is_err_and}
use Rattle.der_core.specs.Nested.{part_refused, without_eoc, with_eoc, eoc_failed}
use Rattle.der_core.proofs.reader.value.close_value.Goals as goal

pub returns-in_err-value-clause-exact : goal.returns-in_err-value-clause-exact
returns-in_err-value-clause-exact g c =
    let p = err_from_is_err_and c.from_residual.result c.from_residual.ensures.1 in
    rw (p.1, p.2) (λ owed. part_refused _ c.in_err-value.ensures.exact refl)

pub returns-then-not-is_indefinite-clause-exact : goal.returns-then-not-is_indefinite-clause-exact
returns-then-not-is_indefinite-clause-exact g c owed = without_eoc _ c.in_ok-value.ensures.exact (sym c.is_indefinite.ensures ∙ c.if-not-is_indefinite.true) refl

pub returns-clause-exact : goal.returns-clause-exact
returns-clause-exact g c owed =
    with_eoc _ _ c.in_ok-value.ensures.exact (sym c.is_indefinite.ensures ∙ c.if-not-is_indefinite.false) c.in_ok-read_eoc.ensures.exact refl

pub returns-in_err-read_eoc-clause-exact : goal.returns-in_err-read_eoc-clause-exact
returns-in_err-read_eoc-clause-exact g c =
    let p = err_from_is_err_and c.from_residual-in_err-read_eoc.result c.from_residual-in_err-read_eoc.ensures.1 in
    rw (p.1)
    (λ owed. eoc_failed _ _ _ _ c.in_ok-value.ensures.exact (sym c.is_indefinite.ensures ∙ c.if-not-is_indefinite.false) (c.in_err-read_eoc.ensures.exact owed) p.2 refl)
