use Rattle.std.proofs.Common.{◌≡◌, true, false, sym, ◌∙◌}
use Rattle.der_c_core.proofs.CodeLemmas.{known_none, known_other}
use Rattle.der_c_core.proofs.error.known_error.Goals as goal

pub returns-in_err-error-clause-none : goal.returns-in_err-error-clause-none
returns-in_err-error-clause-none c _ = known_none c.args.code (sym c.error_of.ensures ∙ c.in_err-error.was)

pub returns-else-is_same-clause-none : goal.returns-else-is_same-clause-none
returns-else-is_same-clause-none c _ =
    known_other c.args.code c.in_ok-error.error (sym c.error_of.ensures ∙ c.in_ok-error.was)
    (λ q. absurd (let no : true ≡ false = sym (c.is_same.ensures.1 (c.c_error.ensures ∙ q)) ∙ c.if-is_same.false in cc))
