-- Lemmas for the laws on policies: a fault refutes a path, and more allowed policies give more nodes.
use Rattle.std.proofs.Common.{◌≡◌, ◌⊎◌, Bool, true, List, [], ◌∷◌, ◌++◌, inl, inr, sym, subst}
use Rattle.std.specs.Borrow.{Bor}
use Rattle.path_rules.specs.Policies.{Policy}
use Rattle.path_rules.specs.PolicyGraph.{Everyone, ExpectedBy, IsExpected, IsNode, IsSource, NodeBy}
use Rattle.path_rules.specs.PolicyRules.{IsPolicyFault, KeepIssuers, KeepsPolicies, PoliciesHold, is_end, onto}
use Rattle.path_rules.specs.declared.counters.Counters.{Counters}
use Rattle.path_rules.specs.declared.policy_facts.PolicyFacts.{PolicyFacts}
use Rattle.path_rules.specs.declared.policy_fault.PolicyFault.{PolicyFault}
use Rattle.path_rules.specs.declared.policy_rule.PolicyRule.{PolicyRule}

-- each certificate of a path keeps every rule, from these on
abbrev pub HoldFrom : Counters → List (Bor Policy) → List PolicyFacts → List PolicyFacts → Type 0
HoldFrom start allowed before [] = Unit {0}
HoldFrom start allowed before (c ∷ cs) = ((r : PolicyRule) → KeepsPolicies start allowed (is_end cs) c before r) × HoldFrom start allowed (c ∷ before) cs

pub hold_from : (start : Counters) (allowed : List (Bor Policy)) (before issuers : List PolicyFacts) (target : PolicyFacts) → KeepIssuers start allowed before issuers
    → ((r : PolicyRule) → KeepsPolicies start allowed true target (onto before issuers) r) → HoldFrom start allowed before (issuers ++ target ∷ [])
hold_from start allowed before [] target keep last = (last, tt)
hold_from start allowed before (c ∷ []) target keep last = (keep.0, hold_from start allowed (c ∷ before) [] target keep.1 last)
hold_from start allowed before (c ∷ d ∷ cs) target keep last = (keep.0, hold_from start allowed (c ∷ before) (d ∷ cs) target keep.1 last)

pub hold_at : (start : Counters) (allowed : List (Bor Policy)) (before xs : List PolicyFacts) (c : PolicyFacts) (after : List PolicyFacts) → HoldFrom start allowed before (xs ++ c ∷ after)
    → (r : PolicyRule) → KeepsPolicies start allowed (is_end after) c (onto before xs) r
hold_at start allowed before [] c after h r = h.0 r
hold_at start allowed before (x ∷ xs) c after h r = hold_at start allowed (x ∷ before) xs c after h.1 r

pub policy_fault_refutes : (start : Counters) (allowed : List (Bor Policy)) (f : PolicyFault) (p : List PolicyFacts) → IsPolicyFault start allowed f p → PoliciesHold start allowed p → ⊥
policy_fault_refutes start allowed f p is holds =
    let all : HoldFrom start allowed [] p = subst (HoldFrom start allowed []) (sym holds.split) (hold_from start allowed [] holds.issuers holds.target holds.issuers_keep holds.target_keeps) in
    is.broken.broken (hold_at start allowed [] is.before is.certificate is.after (subst (HoldFrom start allowed []) is.split all) f.rule)

pub empty_refutes : (issuers : List PolicyFacts) (target : PolicyFacts) → [] ≡ issuers ++ target ∷ [] → ⊥
empty_refutes [] target e = (let contrary : [] ≡ target ∷ [] = e in cc)
empty_refutes (c ∷ cs) target e = (let contrary : [] ≡ c ∷ (cs ++ target ∷ []) = e in cc)

pub empty_has_none : (start : Counters) (allowed : List (Bor Policy)) (p : List PolicyFacts) → p ≡ [] → PoliciesHold start allowed p → ⊥
empty_has_none start allowed p e holds = empty_refutes holds.issuers holds.target (subst (λ x. x ≡ holds.issuers ++ holds.target ∷ []) e holds.split)

node_more : (c : PolicyFacts) (AC AB : Type 0) (U V X Y K : Policy → Type 0) → ((p : Policy) → U p → V p) → ((p : Policy) → X p → Y p) → (p : Policy) → NodeBy c AC AB U X K p → NodeBy c AC AB V Y K p
node_more c AC AB U V X Y K more expected p = turn
  where
    inner : X p ⊎ ((K p → ⊥) × AB × U p) → Y p ⊎ ((K p → ⊥) × AB × V p)
    inner (inl x) = inl (expected p x)
    inner (inr h) = inr (h.0, h.1, more p h.2)

    turn : NodeBy c AC AB U X K p → NodeBy c AC AB V Y K p
    turn (inl h) = inl (h.0, inner h.1)
    turn (inr h) = inr (h.0, expected p h.1)

expected_more : (c : PolicyFacts) (M AH : Type 0) (U V N O K : Policy → Type 0) → ((p : Policy) → U p → V p) → ((p : Policy) → N p → O p) → (p : Policy) → ExpectedBy c M AH U N K p → ExpectedBy c M AH V O K p
expected_more c M AH U V N O K more node p = turn
  where
    source : (q : Policy) → IsSource AH U N K q → IsSource AH V O K q
    source q (inl n) = inl (node q n)
    source q (inr h) = inr (h.0, h.1, more q h.2)

    turn : ExpectedBy c M AH U N K p → ExpectedBy c M AH V O K p
    turn (inl h) = inl (h.0, node p h.1)
    turn (inr h) = inr (h.0, (h.1.0, h.1.1, source h.1.0 h.1.2))

-- what is expected where fewer policies are allowed is expected where more are
pub more_expected : (start : Counters) (U V : Policy → Type 0) → ((p : Policy) → U p → V p) → (before : List PolicyFacts) (p : Policy) → IsExpected start U before p → IsExpected start V before p
more_expected start U V more [] p h = h
more_expected start U V more (c ∷ before) p h =
    expected_more c _ _ U V _ _ _ more (node_more c _ _ U V _ _ _ more (more_expected start U V more before)) p h

pub more_nodes : (start : Counters) (U V : Policy → Type 0) → ((p : Policy) → U p → V p) → (last : Bool) (c : PolicyFacts) (before : List PolicyFacts) (p : Policy)
    → IsNode start U last c before p → IsNode start V last c before p
more_nodes start U V more last c before p h = node_more c _ _ U V _ _ (IsExpected start Everyone before) more (more_expected start U V more before) p h
