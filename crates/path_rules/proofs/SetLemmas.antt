-- Lemmas on the authority-constrained policy set of a path.
use Rattle.std.proofs.Common.{◌≡◌, ◌≢◌, ◌↔◌, ◌⊎◌, Bool, false, true, List, [], ◌∷◌, ◌++◌, IsTrue, inl, inr, refl, sym, subst, ◌∙◌}
use Rattle.std.specs.Borrow.{Bor}
use Rattle.path_rules.proofs.AnyLemmas.{one_of, one_is}
use Rattle.path_rules.proofs.RefusalLemmas.{HoldFrom, empty_refutes, hold_at, hold_from, more_nodes}
use Rattle.path_rules.specs.Policies.{Allows, Policy}
use Rattle.path_rules.specs.PolicyGraph.{HasAny, IsNode}
use Rattle.path_rules.specs.PolicyRules.{AreValid, Exists, IsPolicyFault, KeepsPolicies, PoliciesHold, is_end, onto}
use Rattle.path_rules.specs.PolicySets.{IsAuthorityPolicy}
use Rattle.path_rules.specs.declared.counters.Counters.{Counters}
use Rattle.path_rules.specs.declared.policies.TheConstants.{ANY_POLICY}
use Rattle.path_rules.specs.declared.policy_facts.PolicyFacts.{PolicyFacts}
use Rattle.path_rules.specs.declared.policy_fault.PolicyFault.{PolicyFault}
use Rattle.path_rules.specs.declared.policy_rule.PolicyRule.{PolicyRule}
use Rattle.path_rules.specs.declared.policy_rule.PolicyRule.TheVariants as rule
use Rattle.path_rules.specs.declared.valid_policies.ValidPolicies.{ValidPolicies}

-- a path has one last certificate
last_same : (xs ys : List PolicyFacts) (x y : PolicyFacts) → xs ++ x ∷ [] ≡ ys ++ y ∷ [] → (xs ≡ ys) × (x ≡ y)
last_same [] [] x y e = (refl, let same : x ∷ [] ≡ y ∷ [] = e in cc)
last_same [] (b ∷ ys) x y e = absurd (empty_refutes ys y (let same : x ∷ [] ≡ b ∷ (ys ++ y ∷ []) = e in cc))
last_same (a ∷ xs) [] x y e = absurd (empty_refutes xs x (let same : a ∷ (xs ++ x ∷ []) ≡ y ∷ [] = e in cc))
last_same (a ∷ xs) (b ∷ ys) x y e =
    let same : a ∷ (xs ++ x ∷ []) ≡ b ∷ (ys ++ y ∷ []) = e in
    let head : a ≡ b = cc in
    let rest : xs ++ x ∷ [] ≡ ys ++ y ∷ [] = cc in
    let tail = last_same xs ys x y rest in
    let tails : xs ≡ ys = tail.0 in
    let both : a ∷ xs ≡ b ∷ ys = cc in
    (both, tail.1)

-- a list of one policy allows this policy alone, if it is not anyPolicy
one_allows : (b : Bor Policy) → b.now ≢ ANY_POLICY → (r : Policy) → Allows (b ∷ []) r → r ≡ b.now
one_allows b other r (inl h) = absurd (other (one_of (λ (q : Bor Policy). q.now ≡ ANY_POLICY) b h))
one_allows b other r (inr h) = sym (one_of (λ (q : Bor Policy). q.now ≡ r) b h)

allows_one : (b : Bor Policy) (r : Policy) → r ≡ b.now → Allows (b ∷ []) r
allows_one b r e = inr (one_is (λ (q : Bor Policy). q.now ≡ r) b (sym e))

-- the nodes that grow from a policy
one_nodes : (start : Counters) (b : Bor Policy) (target : PolicyFacts) (before : List PolicyFacts) → b.now ≢ ANY_POLICY
    → Exists (IsNode start (Allows (b ∷ [])) true target before) ↔ Exists (IsNode start (λ r. r ≡ b.now) true target before)
one_nodes start b target before other = (
  λ h. (h.0, more_nodes start (Allows (b ∷ [])) (λ r. r ≡ b.now) (one_allows b other) true target before h.0 h.1),
  λ h. (h.0, more_nodes start (λ r. r ≡ b.now) (Allows (b ∷ [])) (allows_one b) true target before h.0 h.1),
)

-- anyPolicy is in the set exactly if it is a node at the end, and another policy exactly if a node grows from it
pub any_in : (start : Counters) (b : Bor Policy) (v : ValidPolicies) (target : PolicyFacts) (before : List PolicyFacts) → b.now ≡ ANY_POLICY
    → AreValid v start (b ∷ []) target before → IsTrue v.has_any_policy ↔ IsAuthorityPolicy start target before b.now
any_in start b v target before e valid = (λ h. inl (e, valid.any.0 h), back)
  where
    back : IsAuthorityPolicy start target before b.now → IsTrue v.has_any_policy
    back (inl h) = valid.any.1 h.1
    back (inr h) = absurd (h.0 e)

pub other_in : (start : Counters) (b : Bor Policy) (v : ValidPolicies) (target : PolicyFacts) (before : List PolicyFacts) → b.now ≢ ANY_POLICY
    → AreValid v start (b ∷ []) target before → IsTrue v.has_allowed ↔ IsAuthorityPolicy start target before b.now
other_in start b v target before other valid = (λ h. inr (other, (one_nodes start b target before other).0 (valid.allowed_node.0 h)), back)
  where
    back : IsAuthorityPolicy start target before b.now → IsTrue v.has_allowed
    back (inl h) = absurd (other h.0)
    back (inr h) = valid.allowed_node.1 ((one_nodes start b target before other).1 h.1)

-- the answer for one way to take a path apart is that for any other
pub same_path : (start : Counters) (allowed allowed' : List (Bor Policy)) (path : List PolicyFacts) (t : Bool) (p : Policy)
    (one : PoliciesHold start allowed path) (other : PoliciesHold start allowed' path)
    → IsTrue t ↔ IsAuthorityPolicy start one.target (onto [] one.issuers) p → IsTrue t ↔ IsAuthorityPolicy start other.target (onto [] other.issuers) p
same_path start allowed allowed' path t p one other h =
    let same = last_same one.issuers other.issuers one.target other.target (sym one.split ∙ other.split) in
    subst (λ c. IsTrue t ↔ IsAuthorityPolicy start c (onto [] other.issuers) p) same.1
    (subst (λ xs. IsTrue t ↔ IsAuthorityPolicy start one.target (onto [] xs) p) same.0 h)

-- a policy of the set would let the last certificate keep the rule
authority_allowed : (start : Counters) (b : Bor Policy) (target : PolicyFacts) (before : List PolicyFacts) → IsAuthorityPolicy start target before b.now
    → Exists (IsNode start (Allows (b ∷ [])) true target before) ⊎ (HasAny start true (target ∷ before) × Exists (Allows (b ∷ [])))
authority_allowed start b target before (inl h) = inr (h.1, (b.now, allows_one b b.now refl))
authority_allowed start b target before (inr h) = inl ((one_nodes start b target before h.0).1 h.1)

-- if a rule is broken for one policy alone, and none for others, then it is the last, and the policy is not in the set
lacks : (start : Counters) (allowed : List (Bor Policy)) (b : Bor Policy) (last : Bool) (c : PolicyFacts) (before : List PolicyFacts) (r : PolicyRule)
    → (KeepsPolicies start (b ∷ []) last c before r → ⊥) → ((q : PolicyRule) → KeepsPolicies start allowed last c before q)
    → (last ≡ true) × (IsAuthorityPolicy start c before b.now → ⊥)
lacks start allowed b last c before rule.Explicit broken keeps = absurd (broken (keeps rule.Explicit))
lacks start allowed b last c before rule.Mapping broken keeps = absurd (broken (keeps rule.Mapping))
lacks start allowed b false c before rule.Allowed broken keeps = absurd (broken (λ e. absurd (let contrary : false ≡ true = e in cc)))
lacks start allowed b true c before rule.Allowed broken keeps = (refl, λ h. broken (λ _. inr (authority_allowed start b c before h)))

ends : (after : List PolicyFacts) → is_end after ≡ true → after ≡ []
ends [] e = refl
ends (c ∷ cs) e = absurd (let contrary : false ≡ true = e in cc)

pub fault_lacks : (start : Counters) (allowed : List (Bor Policy)) (b : Bor Policy) (f : PolicyFault) (path : List PolicyFacts) → IsPolicyFault start (b ∷ []) f path
    → (holds : PoliciesHold start allowed path) → IsAuthorityPolicy start holds.target (onto [] holds.issuers) b.now → ⊥
fault_lacks start allowed b f path is holds h =
    let all : HoldFrom start allowed [] path = subst (HoldFrom start allowed []) (sym holds.split) (hold_from start allowed [] holds.issuers holds.target holds.issuers_keep holds.target_keeps) in
    let kept = hold_at start allowed [] is.before is.certificate is.after (subst (HoldFrom start allowed []) is.split all) in
    let found = lacks start allowed b (is_end is.after) is.certificate (onto [] is.before) f.rule is.broken.broken kept in
    let whole : path ≡ is.before ++ is.certificate ∷ [] = subst (λ x. path ≡ is.before ++ is.certificate ∷ x) (ends is.after found.0) is.split in
    let same = last_same holds.issuers is.before holds.target is.certificate (sym holds.split ∙ whole) in
    found.1 (subst (λ c. IsAuthorityPolicy start c (onto [] is.before) b.now) same.1 (subst (λ xs. IsAuthorityPolicy start holds.target (onto [] xs) b.now) same.0 h))
