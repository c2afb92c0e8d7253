-- The valid_policy_tree of RFC 5280, 6.1: a node is a way (`Way`), the policies from the node up to
-- the last that is not anyPolicy. So the tree has a node for each way to a policy, and a policy may
-- have exponentially many. A law says that the graph has a policy at a depth exactly if the tree has
-- a node with it (`IsTreeNode`). Lists of certificates are latest first.
use Rattle.std.specs.Prelude.{◌≡◌, ◌⊎◌, Bool, false, List, [], ◌∷◌}
use Rattle.path_rules.specs.Policies.{Asserts, IsMapped, Maps, Policy, PolicySet}
use Rattle.path_rules.specs.PolicyGraph.{AllowsAny, HasAny, MapsAfter}
use Rattle.path_rules.specs.declared.counters.Counters.{Counters}
use Rattle.path_rules.specs.declared.policy_facts.PolicyFacts.{PolicyFacts}

abbrev pub Way : Type 0
Way = List Policy

-- the expected_policy_set of a node with a policy: the policy, or what it is mapped to (6.1.3 (d)
-- (1), 6.1.4 (b) (1))
abbrev pub Expects : PolicyFacts → Type 0 → Policy → Policy → Type 0
Expects c MapsHere p q =
    ((IsMapped c.mappings.now p → ⊥) × (q ≡ p)) ⊎ (MapsHere × Maps c.mappings.now p q)

-- the first policy of a way expects another
abbrev pub TopExpects : (Policy → Policy → Type 0) → Way → Policy → Type 0
TopExpects E [] p = ⊥
TopExpects E (o ∷ way) p = E o p

-- a node is a child of a node of the depth before that expects its policy; or of anyPolicy, if none
-- does (6.1.3 (d) (1), (2))
abbrev pub TreeBy : PolicyFacts → Type 0 → Type 0 → (Way → Type 0) → (Policy → PolicySet) → Way
    → Type 0
TreeBy c AnyCounts AnyBefore Leaf E [] = ⊥
TreeBy c AnyCounts AnyBefore Leaf E (p ∷ way) =
    (Asserts c.policies.now p
    × ((Leaf way × TopExpects E way p)
    ⊎ ((way ≡ []) × ((other : Way) → Leaf other → TopExpects E other p → ⊥) × AnyBefore)))
    ⊎ (AnyCounts × (Leaf way × TopExpects E way p))

-- after the mappings: a node stays, unless it is mapped and mapping is inhibited; and a policy that
-- is mapped and that no node has is a child of anyPolicy (6.1.4 (b) (1), (2))
abbrev pub LeafBy : PolicyFacts → Type 0 → Type 0 → (Way → Type 0) → Way → Type 0
LeafBy c MapsHere AnyHere Tree [] = ⊥
LeafBy c MapsHere AnyHere Tree (p ∷ way) =
    (Tree (p ∷ way) × (IsMapped c.mappings.now p → MapsHere))
    ⊎ (IsMapped c.mappings.now p × MapsHere × AnyHere × (way ≡ [])
    × ((other : Way) → Tree (p ∷ other) → ⊥))

-- the expected_policy_set of a node after these certificates
abbrev pub ExpectsAfter : Counters → List PolicyFacts → Policy → Policy → Type 0
ExpectsAfter start [] p q = ⊥
ExpectsAfter start (c ∷ before) p q = Expects c (MapsAfter start before) p q

-- a way is a node of the tree after these certificates
abbrev pub IsLeaf : Counters → List PolicyFacts → Way → Type 0
IsLeaf start [] way = ⊥
IsLeaf start (c ∷ before) way =
    LeafBy c (MapsAfter start before) (HasAny start false (c ∷ before))
    (TreeBy c (AllowsAny start false c before) (HasAny start false before) (IsLeaf start before)
    (ExpectsAfter start before))
    way

-- a way is a node of the depth of the certificate `c`
abbrev pub IsTreeNode : Counters → Bool → PolicyFacts → List PolicyFacts → Way → Type 0
IsTreeNode start last c before =
    TreeBy c (AllowsAny start last c before) (HasAny start false before) (IsLeaf start before)
    (ExpectsAfter start before)

-- the policy of a way below anyPolicy is one of these: the way stays in the tree where it is
-- intersected with the user-initial-policy-set (6.1.5 (g) (iii))
abbrev pub RootIn : (Policy → Type 0) → Way → Type 0
RootIn User [] = ⊥
RootIn User (p ∷ []) = User p
RootIn User (p ∷ q ∷ way) = RootIn User (q ∷ way)
