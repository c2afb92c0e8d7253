use Rattle.std.proofs.Common.{sym, ◌∙◌}
use Rattle.der_c_core.specs.Located.{cut, not_cut}
use Rattle.der_c_core.proofs.located.located_error.Goals as goal

pub returns-in-Some : goal.returns-in-Some
returns-in-Some c = cut c.in-Some.missing (sym c.says_incomplete.ensures ∙ c.if-not-says_incomplete.false) c.in-Some.ensures.cut c.c_error-in-Some.ensures

pub returns-in-None : goal.returns-in-None
returns-in-None c = not_cut c.in-None.ensures.not_cut c.c_error-in-None.ensures
