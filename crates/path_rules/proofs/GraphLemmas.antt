-- Lemmas on the nodes of a depth and the policies that they expect.
use Rattle.std.proofs.Common.{◌≡◌, ◌↔◌, ◌⊎◌, ◌+◌, ℕ, List, IfSome, Option, Some, None, length, take, true, inl, inr}
use Rattle.path_rules.proofs.AnyLemmas.{none_of}
use Rattle.path_rules.proofs.GrowthLemmas.{fills_then}
use Rattle.path_rules.specs.Growth.{Fills}
use Rattle.path_rules.specs.Nodes.{HasAllowed, HasNode}
use Rattle.path_rules.specs.Policies.{Policy}
use Rattle.path_rules.specs.PolicyGraph.{ExpectedBy, IsSource, NodeBy}
use Rattle.path_rules.specs.declared.node.Node.{Node}
use Rattle.path_rules.specs.declared.policy_facts.PolicyFacts.{PolicyFacts}

-- two steps, of which the second may fail
pub fills_both : (old mid new : List Node) (n a b : ℕ) (r : Option ℕ) (K A Ka A1 Kb A2 : Policy → Type 0) → length mid ≡ length old
    → Fills old mid 0 n a K A → IfSome r (λ m. Fills mid new n m b Ka A1)
    → ((p : Policy) → (K p ⊎ Ka p) ↔ Kb p) → ((p : Policy) → (A p ⊎ A1 p) ↔ A2 p) → IfSome r (λ m. Fills old new 0 m (a + b) Kb A2)
fills_both old mid new n a b None K A Ka A1 Kb A2 same first second known allowed = second
fills_both old mid new n a b (Some m) K A Ka A1 Kb A2 same first second known allowed =
    fills_then old mid new 0 n m a b K A Ka A1 Kb A2 same first second known allowed

-- what is kept and what is fresh are the nodes, if anyPolicy is a node before
pub nodes_with : {Kept AC As E NK AB U F : Type 0} → Kept ↔ (AC ⊎ As) → AB → F ↔ ((As × NK) × U)
    → ((Kept × E) ⊎ F) ↔ ((As × (E ⊎ (NK × AB × U))) ⊎ (AC × E))
nodes_with {Kept} {AC} {As} {E} {NK} {AB} {U} {F} kept ab fresh = (to, back)
  where
    pick : E → AC ⊎ As → (As × (E ⊎ (NK × AB × U))) ⊎ (AC × E)
    pick e (inl ac) = inr (ac, e)
    pick e (inr as') = inl (as', inl e)

    to : (Kept × E) ⊎ F → (As × (E ⊎ (NK × AB × U))) ⊎ (AC × E)
    to (inl h) = pick h.1 (kept.0 h.0)
    to (inr f) = inl ((fresh.0 f).0.0, inr ((fresh.0 f).0.1, ab, (fresh.0 f).1))

    turn : As → E ⊎ (NK × AB × U) → (Kept × E) ⊎ F
    turn as' (inl e) = inl (kept.1 (inr as'), e)
    turn as' (inr h) = inr (fresh.1 ((as', h.0), h.2))

    back : (As × (E ⊎ (NK × AB × U))) ⊎ (AC × E) → (Kept × E) ⊎ F
    back (inl h) = turn h.0 h.1
    back (inr h) = inl (kept.1 (inl h.0), h.1)

-- and if it is not
pub nodes_without : {Kept AC As E NK AB U : Type 0} → Kept ↔ (AC ⊎ As) → (AB → ⊥)
    → (Kept × E) ↔ ((As × (E ⊎ (NK × AB × U))) ⊎ (AC × E))
nodes_without {Kept} {AC} {As} {E} {NK} {AB} {U} kept never = (λ h. pick h.1 (kept.0 h.0), back)
  where
    pick : E → AC ⊎ As → (As × (E ⊎ (NK × AB × U))) ⊎ (AC × E)
    pick e (inl ac) = inr (ac, e)
    pick e (inr as') = inl (as', inl e)

    turn : As → E ⊎ (NK × AB × U) → Kept × E
    turn as' (inl e) = (kept.1 (inr as'), e)
    turn as' (inr h) = absurd (never h.1)

    back : (As × (E ⊎ (NK × AB × U))) ⊎ (AC × E) → Kept × E
    back (inl h) = turn h.0 h.1
    back (inr h) = (kept.1 (inl h.0), h.1)

-- what is not mapped and what is mapped to are expected, if policies may be mapped
pub expected_with : {A M T : Type 0} → M → (A ⊎ T) ↔ (A ⊎ (M × T))
expected_with {A} {M} {T} m = (to, back)
  where
    to : A ⊎ T → A ⊎ (M × T)
    to (inl a) = inl a
    to (inr t) = inr (m, t)

    back : A ⊎ (M × T) → A ⊎ T
    back (inl a) = inl a
    back (inr h) = inr h.1

-- and if they may not
pub expected_without : {A M T : Type 0} → (M → ⊥) → A ↔ (A ⊎ (M × T))
expected_without {A} {M} {T} never = (λ a. inl a, back)
  where
    back : A ⊎ (M × T) → A
    back (inl a) = a
    back (inr h) = absurd (never h.0)

-- nodes by weaker facts are nodes by stronger ones
node_by_from : (c : PolicyFacts) (AC AC1 AB AB1 : Type 0) (U E E1 K Ka : Policy → Type 0) → (AC → AC1) → (AB → AB1)
    → ((p : Policy) → E p → E1 p) → ((p : Policy) → Ka p → K p) → (p : Policy) → NodeBy c AC AB U E K p → NodeBy c AC1 AB1 U E1 Ka p
node_by_from c AC AC1 AB AB1 U E E1 K Ka counts before expected known p = turn
  where
    inner : E p ⊎ ((K p → ⊥) × AB × U p) → E1 p ⊎ ((Ka p → ⊥) × AB1 × U p)
    inner (inl e) = inl (expected p e)
    inner (inr h) = inr (λ k. h.0 (known p k), before h.1, h.2)

    turn : NodeBy c AC AB U E K p → NodeBy c AC1 AB1 U E1 Ka p
    turn (inl h) = inl (h.0, inner h.1)
    turn (inr h) = inr (counts h.0, expected p h.1)

pub node_by_same : (c : PolicyFacts) (AC AC1 AB AB1 : Type 0) (U E E1 K Ka : Policy → Type 0) → AC ↔ AC1 → AB ↔ AB1
    → ((p : Policy) → E p ↔ E1 p) → ((p : Policy) → K p ↔ Ka p) → (p : Policy) → NodeBy c AC AB U E K p ↔ NodeBy c AC1 AB1 U E1 Ka p
node_by_same c AC AC1 AB AB1 U E E1 K Ka counts before expected known p = (
  node_by_from c AC AC1 AB AB1 U E E1 K Ka counts.0 before.0 (λ q. (expected q).0) (λ q. (known q).1) p,
  node_by_from c AC1 AC AB1 AB U E1 E Ka K counts.1 before.1 (λ q. (expected q).1) (λ q. (known q).0) p,
)

expected_by_from : (c : PolicyFacts) (M M1 AH AH1 : Type 0) (U N N1 K Ka : Policy → Type 0) → (M → M1) → (AH → AH1)
    → ((p : Policy) → N p → N1 p) → ((p : Policy) → Ka p → K p) → (p : Policy) → ExpectedBy c M AH U N K p → ExpectedBy c M1 AH1 U N1 Ka p
expected_by_from c M M1 AH AH1 U N N1 K Ka maps here node known p = turn
  where
    source : (q : Policy) → IsSource AH U N K q → IsSource AH1 U N1 Ka q
    source q (inl n) = inl (node q n)
    source q (inr h) = inr (λ k. h.0 (known q k), here h.1, h.2)

    turn : ExpectedBy c M AH U N K p → ExpectedBy c M1 AH1 U N1 Ka p
    turn (inl h) = inl (h.0, node p h.1)
    turn (inr h) = inr (maps h.0, (h.1.0, h.1.1, source h.1.0 h.1.2))

pub expected_by_same : (c : PolicyFacts) (M M1 AH AH1 : Type 0) (U N N1 K Ka : Policy → Type 0) → M ↔ M1 → AH ↔ AH1
    → ((p : Policy) → N p ↔ N1 p) → ((p : Policy) → K p ↔ Ka p) → (p : Policy) → ExpectedBy c M AH U N K p ↔ ExpectedBy c M1 AH1 U N1 Ka p
expected_by_same c M M1 AH AH1 U N N1 K Ka maps here node known p = (
  expected_by_from c M M1 AH AH1 U N N1 K Ka maps.0 here.0 (λ q. (node q).0) (λ q. (known q).1) p,
  expected_by_from c M1 M AH1 AH U N1 N Ka K maps.1 here.1 (λ q. (node q).1) (λ q. (known q).0) p,
)

-- what fills an empty front is there alone
pub filled_known : (old new : List Node) (n most : ℕ) (K A : Policy → Type 0) → Fills old new 0 n most K A → (p : Policy) → HasNode (take n new) p ↔ K p
filled_known old new n most K A f p = (λ h. only ((f.grows.known p).0 h), λ k. (f.grows.known p).1 (inr k))
  where
    only : HasNode (take 0 old) p ⊎ K p → K p
    only (inl h) = absurd (none_of (λ n. n.policy.now ≡ p) h)
    only (inr k) = k

pub filled_allowed : (old new : List Node) (n most : ℕ) (K A : Policy → Type 0) → Fills old new 0 n most K A → (p : Policy) → HasAllowed (take n new) p ↔ A p
filled_allowed old new n most K A f p = (λ h. only ((f.grows.allowed p).0 h), λ k. (f.grows.allowed p).1 (inr k))
  where
    only : HasAllowed (take 0 old) p ⊎ A p → A p
    only (inl h) = absurd (none_of (λ n. (n.policy.now ≡ p) × (n.is_allowed ≡ true)) h)
    only (inr k) = k
