-- Lemmas on the rules for policies at one certificate.
use Rattle.std.proofs.Common.{◌≡◌, ◌≢◌, ◌↔◌, true, List, [], ◌∷◌, Any, length, inl, inr, refl, arith}
use Rattle.std.specs.Borrow.{Bor}
use Rattle.std.proofs.lemmas.List.Elements.{All-cons, All-nil}
use Rattle.path_rules.proofs.AnyLemmas.{none_of}
use Rattle.path_rules.specs.Nodes.{HasAllowed, HasNode}
use Rattle.path_rules.specs.Policies.{Allows, Policy}
use Rattle.path_rules.specs.PolicyRules.{Exists, IsFirstOf}
use Rattle.path_rules.specs.declared.node.Node.{Node}
use Rattle.path_rules.specs.declared.policies.TheConstants.{ANY_POLICY}
use Rattle.path_rules.specs.declared.policy_rule.PolicyRule.{PolicyRule}
use Rattle.path_rules.specs.declared.policy_rule.PolicyRule.TheVariants as rule

pub no_nodes : (nodes : List Node) → length nodes ≡ 0 → Exists (HasNode nodes) → ⊥
no_nodes [] e h = none_of (λ n. n.policy.now ≡ h.0) h.1
no_nodes (n ∷ nodes) e h = omega (arith, e)

pub some_nodes : (nodes : List Node) → length nodes ≢ 0 → Exists (HasNode nodes)
some_nodes [] e = absurd (e refl)
some_nodes (n ∷ nodes) e = (n.policy.now, (0, n, omega arith, refl, refl))

pub no_allowed : (allowed : List (Bor Policy)) → length allowed ≡ 0 → Exists (Allows allowed) → ⊥
no_allowed [] e h = fails h.1
  where
    fails : Allows [] h.0 → ⊥
    fails (inl a) = none_of (λ (q : Bor Policy). q.now ≡ ANY_POLICY) a
    fails (inr a) = none_of (λ (q : Bor Policy). q.now ≡ h.0) a
no_allowed (p ∷ allowed) e h = omega (arith, e)

pub some_allowed : (allowed : List (Bor Policy)) → length allowed ≢ 0 → Exists (Allows allowed)
some_allowed [] e = absurd (e refl)
some_allowed (p ∷ allowed) e = (p.now, inr (0, p, omega arith, refl, refl))

-- an allowed node has a policy
pub allowed_exists : (nodes : List Node) → Any (λ n. n.is_allowed ≡ true) nodes ↔ Exists (HasAllowed nodes)
allowed_exists nodes = (
  λ h. (h.1.policy.now, (h.0, h.1, h.2, h.3, (refl, h.4))),
  λ h. (h.1.0, h.1.1, h.1.2, h.1.3, h.1.4.1),
)

-- the first rule of the list that is broken
pub explicit_first : (Asks : PolicyRule → Type 0) → (Asks rule.Explicit → ⊥) → IsFirstOf Asks rule.Explicit
explicit_first Asks broken = record { kept = []; others = rule.Mapping ∷ rule.Allowed ∷ []; split = refl; earlier = All-nil Asks; broken = broken }

pub mapping_first : (Asks : PolicyRule → Type 0) → Asks rule.Explicit → (Asks rule.Mapping → ⊥) → IsFirstOf Asks rule.Mapping
mapping_first Asks explicit broken =
    record { kept = rule.Explicit ∷ []; others = rule.Allowed ∷ []; split = refl; earlier = All-cons Asks rule.Explicit [] explicit (All-nil Asks); broken = broken }

pub allowed_first : (Asks : PolicyRule → Type 0) → Asks rule.Explicit → Asks rule.Mapping → (Asks rule.Allowed → ⊥) → IsFirstOf Asks rule.Allowed
allowed_first Asks explicit mapping broken =
    record {
      kept = rule.Explicit ∷ rule.Mapping ∷ [];
      others = [];
      split = refl;
      earlier = All-cons Asks rule.Explicit (rule.Mapping ∷ []) explicit (All-cons Asks rule.Mapping [] mapping (All-nil Asks));
      broken = broken;
    }

pub every_policy_rule : (Asks : PolicyRule → Type 0) → Asks rule.Explicit → Asks rule.Mapping → Asks rule.Allowed → (r : PolicyRule) → Asks r
every_policy_rule Asks explicit mapping allowed rule.Explicit = explicit
every_policy_rule Asks explicit mapping allowed rule.Mapping = mapping
every_policy_rule Asks explicit mapping allowed rule.Allowed = allowed
