-- Lemmas on what is known of the policy graph.
use Rattle.std.proofs.Common.{◌≡◌, ◌↔◌, ◌⊎◌, ◌+◌, ◌<◌, ◌≤◌, ℕ, Bool, false, true, List, ◌∷◌, IsTrue, inl, inr, sym, ap, subst, take, length, ◌∙◌, arith}
use Rattle.std.specs.Borrow.{Bor}
use Rattle.path_rules.proofs.GraphLemmas.{expected_by_same, filled_allowed, filled_known, node_by_same}
use Rattle.path_rules.proofs.GrowthLemmas.{via}
use Rattle.path_rules.specs.Counters.{last_explicit, next_counters}
use Rattle.path_rules.specs.Growth.{Fills}
use Rattle.path_rules.specs.Nodes.{HasAllowed, HasNode}
use Rattle.path_rules.specs.Policies.{Allows, IsIn, Policy}
use Rattle.path_rules.specs.PolicyGraph.{AllowsAny, Everyone, ExpectedBy, HasAny, IsExpected, IsNode, MapsAfter, NodeBy}
use Rattle.path_rules.specs.PolicyRules.{AsksPolicies, Exists, IsFirstOf, KeepsPolicies}
use Rattle.path_rules.specs.States.{IsDepth, IsState}
use Rattle.path_rules.specs.Steps.{GoesOnFits, IsNext, IsPassed, PassFits}
use Rattle.path_rules.specs.declared.counters.Counters.{Counters}
use Rattle.path_rules.specs.declared.node.Node.{Node}
use Rattle.path_rules.specs.declared.passed.Passed.{Passed}
use Rattle.path_rules.specs.declared.passed.Passed.TheVariants as passed
use Rattle.path_rules.specs.declared.policies.TheConstants.{ANY_POLICY}
use Rattle.path_rules.specs.declared.policy_facts.PolicyFacts.{PolicyFacts}
use Rattle.path_rules.specs.declared.policy_rule.PolicyRule.{PolicyRule}
use Rattle.path_rules.specs.declared.policy_rule.PolicyRule.TheVariants as rule
use Rattle.path_rules.specs.declared.state.Depth.{Depth}
use Rattle.path_rules.specs.declared.state.State.{State}

-- the nodes that are put into a room are those of the depth
pub depth_is : (start : Counters) (allowed : List (Bor Policy)) (last : Bool) (c : PolicyFacts) (before : List PolicyFacts) (s : State) (d : Depth)
    (expected old new : List Node) (most : ℕ) (AC : Type 0) → AC ↔ (IsIn c.policies.now ANY_POLICY × ((0 < s.counters.any) ⊎ ((last ≡ false) × (c.is_self_issued ≡ true))))
    → IsTrue d.has_any ↔ (AC × IsTrue s.has_any)
    → Fills old new 0 d.count most
    (NodeBy c AC (IsTrue s.has_any) Everyone (HasNode expected) (HasNode expected))
    (NodeBy c AC (IsTrue s.has_any) (Allows allowed) (HasAllowed expected) (HasNode expected))
    → IsState start allowed before s expected → IsDepth start allowed last c before d (take d.count new)
depth_is start allowed last c before s d expected old new most AC counts any fills is =
    let here : AC ↔ AllowsAny start last c before = subst (λ n. AC ↔ (IsIn c.policies.now ANY_POLICY × ((0 < n.any) ⊎ ((last ≡ false) × (c.is_self_issued ≡ true))))) is.counts counts in
    record {
      any = (
        λ h. (here.0 (any.0 h).0, is.any.0 (any.0 h).1),
        λ h. any.1 (here.1 h.0, is.any.1 h.1),
      );
      known = λ p. via (filled_known old new d.count most _ _ fills p)
          (node_by_same c AC (AllowsAny start last c before) (IsTrue s.has_any) (HasAny start false before) Everyone (HasNode expected) (IsExpected start Everyone before) (HasNode expected) (IsExpected start Everyone before) here is.any is.known is.known p);
      mine = λ p. via (filled_allowed old new d.count most _ _ fills p)
          (node_by_same c AC (AllowsAny start last c before) (IsTrue s.has_any) (HasAny start false before) (Allows allowed) (HasAllowed expected) (IsExpected start (Allows allowed) before) (HasNode expected) (IsExpected start Everyone before) here is.any is.mine is.known p);
    }

-- the expected policies that are put into a room are those of the state after the certificate
pub state_is : (start : Counters) (allowed : List (Bor Policy)) (c : PolicyFacts) (before : List PolicyFacts) (s : State) (d : Depth) (next : State)
    (expected nodes old new : List Node) (most : ℕ) (M : Type 0) → M ↔ (0 < s.counters.mapping)
    → next.counters ≡ next_counters c s.counters → next.has_any ≡ d.has_any
    → Fills old new 0 next.count most
    (ExpectedBy c M (IsTrue d.has_any) Everyone (HasNode nodes) (HasNode nodes))
    (ExpectedBy c M (IsTrue d.has_any) (Allows allowed) (HasAllowed nodes) (HasNode nodes))
    → IsState start allowed before s expected → IsDepth start allowed false c before d nodes → IsState start allowed (c ∷ before) next (take next.count new)
state_is start allowed c before s d next expected nodes old new most M maps counts any fills is depth =
    let here : M ↔ MapsAfter start before = subst (λ n. M ↔ (0 < n.mapping)) is.counts maps in
    record {
      counts = counts ∙ ap (next_counters c) is.counts;
      any = subst (λ b. IsTrue b ↔ HasAny start false (c ∷ before)) (sym any) depth.any;
      known = λ p. via (filled_known old new next.count most _ _ fills p)
          (expected_by_same c M (MapsAfter start before) (IsTrue d.has_any) (HasAny start false (c ∷ before)) Everyone (HasNode nodes) (IsNode start Everyone false c before) (HasNode nodes) (IsNode start Everyone false c before) here depth.any depth.known depth.known p);
      mine = λ p. via (filled_allowed old new next.count most _ _ fills p)
          (expected_by_same c M (MapsAfter start before) (IsTrue d.has_any) (HasAny start false (c ∷ before)) (Allows allowed) (HasAllowed nodes) (IsNode start (Allows allowed) false c before) (HasNode nodes) (IsNode start Everyone false c before) here depth.any depth.mine depth.known p);
    }

-- the rules ask the same of the nodes in a room and of those of the graph
pub asks_same : (c : PolicyFacts) (last : Bool) (e : ℕ) (AH AH1 : Type 0) (K Ka N N1 U : Policy → Type 0) → AH ↔ AH1
    → ((p : Policy) → K p ↔ Ka p) → ((p : Policy) → N p ↔ N1 p) → (r : PolicyRule) → AsksPolicies c last e AH K N U r ↔ AsksPolicies c last e AH1 Ka N1 U r
asks_same c last e AH AH1 K Ka N N1 U any known node rule.Explicit = (to, back)
  where
    to : (0 < e) ⊎ (AH ⊎ Exists K) → (0 < e) ⊎ (AH1 ⊎ Exists Ka)
    to (inl h) = inl h
    to (inr (inl h)) = inr (inl (any.0 h))
    to (inr (inr h)) = inr (inr (h.0, (known h.0).0 h.1))

    back : (0 < e) ⊎ (AH1 ⊎ Exists Ka) → (0 < e) ⊎ (AH ⊎ Exists K)
    back (inl h) = inl h
    back (inr (inl h)) = inr (inl (any.1 h))
    back (inr (inr h)) = inr (inr (h.0, (known h.0).1 h.1))
asks_same c last e AH AH1 K Ka N N1 U any known node rule.Mapping = (λ h. h, λ h. h)
asks_same c last e AH AH1 K Ka N N1 U any known node rule.Allowed = (λ h is. to (h is), λ h is. back (h is))
  where
    to : (0 < last_explicit c.require_explicit e) ⊎ (Exists N ⊎ (AH × Exists U)) → (0 < last_explicit c.require_explicit e) ⊎ (Exists N1 ⊎ (AH1 × Exists U))
    to (inl h) = inl h
    to (inr (inl h)) = inr (inl (h.0, (node h.0).0 h.1))
    to (inr (inr h)) = inr (inr (any.0 h.0, h.1))

    back : (0 < last_explicit c.require_explicit e) ⊎ (Exists N1 ⊎ (AH1 × Exists U)) → (0 < last_explicit c.require_explicit e) ⊎ (Exists N ⊎ (AH × Exists U))
    back (inl h) = inl h
    back (inr (inl h)) = inr (inl (h.0, (node h.0).1 h.1))
    back (inr (inr h)) = inr (inr (any.1 h.0, h.1))

pub keeps_same : (start : Counters) (allowed : List (Bor Policy)) (last : Bool) (c : PolicyFacts) (before : List PolicyFacts) (s : State) (d : Depth) (expected nodes : List Node)
    → IsState start allowed before s expected → IsDepth start allowed last c before d nodes → (r : PolicyRule)
    → AsksPolicies c last s.counters.explicit (IsTrue d.has_any) (HasNode nodes) (HasAllowed nodes) (Allows allowed) r ↔ KeepsPolicies start allowed last c before r
keeps_same start allowed last c before s d expected nodes is depth r =
    subst (λ n. AsksPolicies c last s.counters.explicit (IsTrue d.has_any) (HasNode nodes) (HasAllowed nodes) (Allows allowed) r
    ↔ AsksPolicies c last n.explicit (HasAny start last (c ∷ before)) (IsNode start Everyone last c before) (IsNode start (Allows allowed) last c before) (Allows allowed) r) is.counts
    (asks_same c last s.counters.explicit (IsTrue d.has_any) (HasAny start last (c ∷ before)) (HasNode nodes) (IsNode start Everyone last c before) (HasAllowed nodes) (IsNode start (Allows allowed) last c before) (Allows allowed) depth.any depth.known depth.mine r)

-- the first rule that is broken, in other words
pub first_same : (P Q : PolicyRule → Type 0) (r : PolicyRule) → ((q : PolicyRule) → P q ↔ Q q) → IsFirstOf P r → IsFirstOf Q r
first_same P Q r same f =
    record { kept = f.kept; others = f.others; split = f.split; earlier = λ k d lt. (same _).0 (f.earlier k d lt); broken = λ h. f.broken ((same r).1 h) }

pub exists_same : (P Q : Policy → Type 0) → ((p : Policy) → P p ↔ Q p) → Exists P ↔ Exists Q
exists_same P Q same = (λ h. (h.0, (same h.0).0 h.1), λ h. (h.0, (same h.0).1 h.1))

-- a certificate that keeps all rules, and the state after it
pub passed_is : (start : Counters) (allowed : List (Bor Policy)) (c : PolicyFacts) (before : List PolicyFacts) (expected : List Node) (r : Passed)
    → IsNext start allowed c before expected r → ((q : PolicyRule) → KeepsPolicies start allowed false c before q) → IsPassed start allowed c before expected r
passed_is start allowed c before expected (passed.Next s) next keeps = (keeps, next)
passed_is start allowed c before expected (passed.Broken q) next keeps = absurd next
passed_is start allowed c before expected passed.NoRoom next keeps = tt

pub pass_fits : (c : PolicyFacts) (count here room other : ℕ) (r : Passed) → here ≤ count + length c.policies.now → GoesOnFits c here room r → PassFits c count room other r
pass_fits c count here room other (passed.Next s) few fits = (fits.0, omega (arith, fits.1, few))
pass_fits c count here room other (passed.Broken q) few fits = absurd fits
pass_fits c count here room other passed.NoRoom few fits = inl (omega (arith, fits, few))
