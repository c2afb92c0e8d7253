use Rattle.std.proofs.Common.{sym, ◌∙◌}
use Rattle.der_base.proofs.EqualityLemmas.{kind_equality}
use Rattle.der_base.proofs.comparisons.equality.error_kind_equality.Goals as goal

pub returns : goal.returns
returns c = let reported = kind_equality c.args.a c.args.b in (λ e. reported.0 (sym c.eq.ensures ∙ e), λ e. c.eq.ensures ∙ reported.1 e)
