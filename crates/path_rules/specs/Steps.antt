-- What becomes of a certificate of a path: `IsPassed` of one that issues another, `IsEnded` of the
-- last. `PassFits` and `EndFits` are about the room.
use Rattle.std.specs.Prelude.{◌⊎◌, ◌+◌, ◌<◌, ◌≤◌, ℕ, false, true, List, ◌∷◌, length, take}
use Rattle.std.specs.Borrow.{Bor}
use Rattle.path_rules.specs.Policies.{Policy}
use Rattle.path_rules.specs.PolicyRules.{AreValid, IsFirstOf, KeepsPolicies}
use Rattle.path_rules.specs.States.{IsState}
use Rattle.path_rules.specs.declared.counters.Counters.{Counters}
use Rattle.path_rules.specs.declared.node.Node.{Node}
use Rattle.path_rules.specs.declared.passed.Ended.{Ended}
use Rattle.path_rules.specs.declared.passed.Ended.TheVariants as ended
use Rattle.path_rules.specs.declared.passed.Passed.{Passed}
use Rattle.path_rules.specs.declared.passed.Passed.TheVariants as passed
use Rattle.path_rules.specs.declared.policy_facts.PolicyFacts.{PolicyFacts}
use Rattle.path_rules.specs.declared.policy_rule.PolicyRule.{PolicyRule}

-- the state is that after the certificate
abbrev pub IsNext : Counters → List (Bor Policy) → PolicyFacts → List PolicyFacts → List Node
    → Passed → Type 0
IsNext start allowed c before expected (passed.Next s) =
    IsState start allowed (c ∷ before) s (take s.count expected)
IsNext start allowed c before expected (passed.Broken r) = ⊥
IsNext start allowed c before expected passed.NoRoom = Unit {0}

-- it keeps all rules, and the state is that after it; or it breaks a rule
abbrev pub IsPassed : Counters → List (Bor Policy) → PolicyFacts → List PolicyFacts → List Node
    → Passed → Type 0
IsPassed start allowed c before expected (passed.Next s) =
    ((r : PolicyRule) → KeepsPolicies start allowed false c before r)
    × IsState start allowed (c ∷ before) s (take s.count expected)
IsPassed start allowed c before expected (passed.Broken r) =
    IsFirstOf (KeepsPolicies start allowed false c before) r
IsPassed start allowed c before expected passed.NoRoom = Unit {0}

-- how many policies and mappings a certificate has
abbrev pub size : PolicyFacts → ℕ
size c = length c.policies.now + length c.mappings.now

-- the expected policies fit, after this number of nodes of the depth; or the room is too small
abbrev pub GoesOnFits : PolicyFacts → ℕ → ℕ → Passed → Type 0
GoesOnFits c count room (passed.Next s) =
    (s.count ≤ room) × (s.count ≤ count + length c.mappings.now)
GoesOnFits c count room (passed.Broken r) = ⊥
GoesOnFits c count room passed.NoRoom = room < count + length c.mappings.now

-- the nodes fit, after this number of nodes; or one of the two rooms is too small
abbrev pub PassFits : PolicyFacts → ℕ → ℕ → ℕ → Passed → Type 0
PassFits c count room other (passed.Next s) = (s.count ≤ room) × (s.count ≤ count + size c)
PassFits c count room other (passed.Broken r) = Unit {0}
PassFits c count room other passed.NoRoom = (room < count + size c) ⊎ (other < count + size c)

-- the last certificate keeps all rules, or breaks one
abbrev pub IsEnded : Counters → List (Bor Policy) → PolicyFacts → List PolicyFacts → Ended → Type 0
IsEnded start allowed c before (ended.Valid v) =
    ((r : PolicyRule) → KeepsPolicies start allowed true c before r)
    × AreValid v start allowed c before
IsEnded start allowed c before (ended.Broken r) =
    IsFirstOf (KeepsPolicies start allowed true c before) r
IsEnded start allowed c before ended.NoRoom = Unit {0}

-- if there is no room, it is smaller than the nodes before and the policies of the certificate
abbrev pub EndFits : PolicyFacts → ℕ → ℕ → Ended → Type 0
EndFits c count room (ended.Valid v) = Unit {0}
EndFits c count room (ended.Broken r) = Unit {0}
EndFits c count room ended.NoRoom = room < count + size c
