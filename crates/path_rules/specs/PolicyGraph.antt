-- The policy graph of RFC 9618, which has the policies of the valid_policy_tree of RFC 5280 (6.1.2 to
-- 6.1.4): a policy is a node of a depth (`IsNode`) or is not, so there are at most as many nodes of a
-- depth as policies. Lists of certificates are latest first, and the first of a list is the one of
-- the depth. `start` has the counters before the path, `last` says whether the certificate is the
-- last of the path, and `User` which policies are in the user-initial-policy-set. What grows from
-- these alone is in the graph of `User`; the whole graph is that of `Everyone`.
use Rattle.std.specs.Prelude.{◌≡◌, ◌⊎◌, ◌<◌, Bool, false, true, List, [], ◌∷◌}
use Rattle.path_rules.specs.Counters.{counters}
use Rattle.path_rules.specs.Policies.{Asserts, IsIn, IsMapped, Maps, Policy, PolicySet}
use Rattle.path_rules.specs.declared.counters.Counters.{Counters}
use Rattle.path_rules.specs.declared.policies.TheConstants.{ANY_POLICY}
use Rattle.path_rules.specs.declared.policy_facts.PolicyFacts.{PolicyFacts}

abbrev pub Everyone : PolicySet
Everyone p = Unit {0}

-- anyPolicy of a certificate counts: it is not inhibited, or the certificate is self-issued and not
-- the last (6.1.3 (d) (2))
abbrev pub AllowsAny : Counters → Bool → PolicyFacts → List PolicyFacts → Type 0
AllowsAny start last c before =
    IsIn c.policies.now ANY_POLICY
    × ((0 < (counters start before).any) ⊎ ((last ≡ false) × (c.is_self_issued ≡ true)))

-- anyPolicy is a node of the depth (6.1.2 (a), 6.1.3 (d) (2))
abbrev pub HasAny : Counters → Bool → List PolicyFacts → Type 0
HasAny start last [] = Unit {0}
HasAny start last (c ∷ before) = AllowsAny start last c before × HasAny start false before

-- a policy is a node: it is asserted, and a node before expects it, or none does and anyPolicy is a
-- node before (6.1.3 (d) (1)); or a node before expects it, and anyPolicy counts (6.1.3 (d) (2)).
-- `Expected` is about the nodes of the graph of `User`, and `Known` about those of the whole graph
abbrev pub NodeBy : PolicyFacts → Type 0 → Type 0 → PolicySet → PolicySet → PolicySet → PolicySet
NodeBy c AnyCounts AnyBefore User Expected Known p =
    (Asserts c.policies.now p × (Expected p ⊎ ((Known p → ⊥) × AnyBefore × User p)))
    ⊎ (AnyCounts × Expected p)

-- a node has the policy, or none has it and anyPolicy is a node of the depth (6.1.4 (b) (1))
abbrev pub IsSource : Type 0 → PolicySet → PolicySet → PolicySet → PolicySet
IsSource AnyHere User Node Known q = Node q ⊎ ((Known q → ⊥) × AnyHere × User q)

-- a node expects itself, unless it is mapped; if mapping is not inhibited, a mapped node expects what
-- it is mapped to (6.1.4 (b)), also if there is only anyPolicy
abbrev pub ExpectedBy : PolicyFacts → Type 0 → Type 0 → PolicySet → PolicySet → PolicySet → PolicySet
ExpectedBy c MapsHere AnyHere User Node Known p =
    ((IsMapped c.mappings.now p → ⊥) × Node p)
    ⊎ (MapsHere × ((q : Policy) × Maps c.mappings.now q p × IsSource AnyHere User Node Known q))

-- policy_mapping is not 0 at a certificate after these
abbrev pub MapsAfter : Counters → List PolicyFacts → Type 0
MapsAfter start before = 0 < (counters start before).mapping

-- a policy is in the expected_policy_set of a node after these certificates
abbrev pub IsExpected : Counters → PolicySet → List PolicyFacts → PolicySet
IsExpected start User [] p = ⊥
IsExpected start User (c ∷ before) p =
    ExpectedBy c (MapsAfter start before) (HasAny start false (c ∷ before)) User
    (NodeBy c (AllowsAny start false c before) (HasAny start false before) User
    (IsExpected start User before) (IsExpected start Everyone before))
    (NodeBy c (AllowsAny start false c before) (HasAny start false before) Everyone
    (IsExpected start Everyone before) (IsExpected start Everyone before))
    p

-- a policy is a node of the depth of the certificate `c`
abbrev pub IsNode : Counters → PolicySet → Bool → PolicyFacts → List PolicyFacts → PolicySet
IsNode start User last c before =
    NodeBy c (AllowsAny start last c before) (HasAny start false before) User
    (IsExpected start User before) (IsExpected start Everyone before)
