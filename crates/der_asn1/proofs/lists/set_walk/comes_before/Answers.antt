use Rattle.std.proofs.Common.{refl, sym, ◌∙◌}
use Rattle.der.proofs.OrderLemmas.{before_from_less, less_from_before}
use Rattle.der_asn1.proofs.lists.set_walk.comes_before.Goals as goal

pub returns-in-Less : goal.returns-in-Less
returns-in-Less c = (λ _. before_from_less c.args.first.now c.args.second.now (sym c.cmp.ensures ∙ c.in-Less.is), λ _. refl)

pub returns-in_default : goal.returns-in_default
returns-in_default c = (λ no. absurd (cc), λ before. absurd (c.in_default.not-Less (c.cmp.ensures ∙ less_from_before c.args.first.now c.args.second.now before)))
