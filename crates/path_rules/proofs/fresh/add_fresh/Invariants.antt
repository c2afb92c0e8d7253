use Rattle.std.proofs.Common.{take}
use Rattle.path_rules.specs.Growth.{Fills, IsFresh}
use Rattle.path_rules.specs.Policies.{Allows}
use Rattle.path_rules.proofs.fresh.add_fresh.Given as goal

abbrev pub invariant-loop-policy : goal.invariant-loop-policy
invariant-loop-policy l =
    Fills l.initial.room l.room l.start l.count l.policy-index
    (IsFresh l.expected (take l.policy-index l.policies))
    (λ p. IsFresh l.expected (take l.policy-index l.policies) p × Allows l.allowed p)
