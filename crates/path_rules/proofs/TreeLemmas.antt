-- Lemmas for the law on the valid_policy_tree: the graph has a policy exactly if the tree has a way to it.
use Rattle.std.proofs.Common.{◌≡◌, ◌↔◌, ◌⊎◌, Bool, false, List, [], ◌∷◌, inl, inr, refl, sym, subst}
use Rattle.path_rules.proofs.AnyLemmas.{any_weaker}
use Rattle.path_rules.specs.Policies.{Asserts, IsMapped, Maps, Policy}
use Rattle.path_rules.specs.PolicyGraph.{AllowsAny, Everyone, ExpectedBy, HasAny, IsExpected, IsNode, IsSource, MapsAfter, NodeBy}
use Rattle.path_rules.specs.PolicyTree.{Expects, ExpectsAfter, IsLeaf, IsTreeNode, LeafBy, RootIn, TopExpects, TreeBy, Way}
use Rattle.path_rules.specs.declared.counters.Counters.{Counters}
use Rattle.path_rules.specs.declared.policy_facts.PolicyFacts.{PolicyFacts}

-- some node of the depth before expects a policy, and its way begins with a policy of the user
abbrev pub SomeLeaf : (Policy → Type 0) → (Way → Type 0) → (Policy → Policy → Type 0) → Policy → Type 0
SomeLeaf User Leaf E p = (way : Way) × Leaf way × TopExpects E way p × RootIn User way

-- some node of a depth has a policy, and its way begins with a policy of the user
abbrev pub SomeNode : (Policy → Type 0) → (Way → Type 0) → Policy → Type 0
SomeNode User Tree p = (way : Way) × Tree (p ∷ way) × RootIn User (p ∷ way)

longer : (User : Policy → Type 0) (E : Policy → Policy → Type 0) (way : Way) (p : Policy) → TopExpects E way p → RootIn User way → RootIn User (p ∷ way)
longer User E [] p top root = absurd top
longer User E (o ∷ way) p top root = root

shorter : (User : Policy → Type 0) (E : Policy → Policy → Type 0) (way : Way) (p : Policy) → TopExpects E way p → RootIn User (p ∷ way) → RootIn User way
shorter User E [] p top root = absurd top
shorter User E (o ∷ way) p top root = root

-- each way that is not empty begins with a policy of everyone
all_in : (p : Policy) (way : Way) → RootIn Everyone (p ∷ way)
all_in p [] = tt
all_in p (q ∷ way) = all_in q way

leaf_in : (E : Policy → Policy → Type 0) (way : Way) (p : Policy) → TopExpects E way p → RootIn Everyone way
leaf_in E [] p top = absurd top
leaf_in E (o ∷ way) p top = all_in o way

node_to : (c : PolicyFacts) (AC AB : Type 0) (User X K : Policy → Type 0) (Leaf : Way → Type 0) (E : Policy → Policy → Type 0)
    → ((p : Policy) → X p ↔ SomeLeaf User Leaf E p) → ((p : Policy) → K p ↔ SomeLeaf Everyone Leaf E p) → (p : Policy)
    → NodeBy c AC AB User X K p → SomeNode User (TreeBy c AC AB Leaf E) p
node_to c AC AB User X K Leaf E expected known p = turn
  where
    inner : Asserts c.policies.now p → X p ⊎ ((K p → ⊥) × AB × User p) → SomeNode User (TreeBy c AC AB Leaf E) p
    inner as' (inl x) =
        (let l = (expected p).0 x in (l.0, inl (as', inl (l.1, l.2)), longer User E l.0 p l.2 l.3))
    inner as' (inr h) = ([], inl (as', inr (refl, λ way leaf top. h.0 ((known p).1 (way, leaf, top, leaf_in E way p top)), h.1)), h.2)

    turn : NodeBy c AC AB User X K p → SomeNode User (TreeBy c AC AB Leaf E) p
    turn (inl h) = inner h.0 h.1
    turn (inr h) = (let l = (expected p).0 h.1 in (l.0, inr (h.0, (l.1, l.2)), longer User E l.0 p l.2 l.3))

node_from : (c : PolicyFacts) (AC AB : Type 0) (User X K : Policy → Type 0) (Leaf : Way → Type 0) (E : Policy → Policy → Type 0)
    → ((p : Policy) → X p ↔ SomeLeaf User Leaf E p) → ((p : Policy) → K p ↔ SomeLeaf Everyone Leaf E p) → (p : Policy)
    → SomeNode User (TreeBy c AC AB Leaf E) p → NodeBy c AC AB User X K p
node_from c AC AB User X K Leaf E expected known p h = turn h.0 h.1 h.2
  where
    inner : (way : Way) → Asserts c.policies.now p → RootIn User (p ∷ way)
        → (Leaf way × TopExpects E way p) ⊎ ((way ≡ []) × ((other : Way) → Leaf other → TopExpects E other p → ⊥) × AB) → NodeBy c AC AB User X K p
    inner way as' root (inl l) = inl (as', inl ((expected p).1 (way, l.0, l.1, shorter User E way p l.1 root)))
    inner way as' root (inr l) =
        inl (as', inr (λ k. (let found = (known p).0 k in l.1 found.0 found.1 found.2), l.2, subst (λ v. RootIn User (p ∷ v)) l.0 root))

    turn : (way : Way) → TreeBy c AC AB Leaf E (p ∷ way) → RootIn User (p ∷ way) → NodeBy c AC AB User X K p
    turn way (inl t) root = inner way t.0 root t.1
    turn way (inr t) root = inr (t.0, (expected p).1 (way, t.1.0, t.1.1, shorter User E way p t.1.1 root))

node_agrees : (c : PolicyFacts) (AC AB : Type 0) (User X K : Policy → Type 0) (Leaf : Way → Type 0) (E : Policy → Policy → Type 0)
    → ((p : Policy) → X p ↔ SomeLeaf User Leaf E p) → ((p : Policy) → K p ↔ SomeLeaf Everyone Leaf E p) → (p : Policy)
    → NodeBy c AC AB User X K p ↔ SomeNode User (TreeBy c AC AB Leaf E) p
node_agrees c AC AB User X K Leaf E expected known p =
    (node_to c AC AB User X K Leaf E expected known p, node_from c AC AB User X K Leaf E expected known p)

expected_to : (c : PolicyFacts) (M AH : Type 0) (User N K : Policy → Type 0) (Tree : Way → Type 0)
    → ((p : Policy) → N p ↔ SomeNode User Tree p) → ((p : Policy) → K p ↔ SomeNode Everyone Tree p) → (p : Policy)
    → ExpectedBy c M AH User N K p → SomeLeaf User (LeafBy c M AH Tree) (Expects c M) p
expected_to c M AH User N K Tree node known p = turn
  where
    source : (q : Policy) → M → Maps c.mappings.now q p → IsSource AH User N K q → SomeLeaf User (LeafBy c M AH Tree) (Expects c M) p
    source q m maps (inl n) = (let t = (node q).0 n in (q ∷ t.0, inl (t.1, λ _. m), inr (m, maps), t.2))
    source q m maps (inr h) = (
      q ∷ [],
      inr (any_weaker (λ x. (x.issuer.now ≡ q) × (x.subject.now ≡ p)) (λ x. x.issuer.now ≡ q) c.mappings.now (λ x e. e.0) maps, m, h.1, refl, λ way t. h.0 ((known q).1 (way, t, all_in q way))),
      inr (m, maps),
      h.2,
    )

    turn : ExpectedBy c M AH User N K p → SomeLeaf User (LeafBy c M AH Tree) (Expects c M) p
    turn (inl h) = (let t = (node p).0 h.1 in (p ∷ t.0, inl (t.1, λ m. absurd (h.0 m)), inl (h.0, refl), t.2))
    turn (inr h) = source h.1.0 h.0 h.1.1 h.1.2

expected_from : (c : PolicyFacts) (M AH : Type 0) (User N K : Policy → Type 0) (Tree : Way → Type 0)
    → ((p : Policy) → N p ↔ SomeNode User Tree p) → ((p : Policy) → K p ↔ SomeNode Everyone Tree p) → (p : Policy)
    → SomeLeaf User (LeafBy c M AH Tree) (Expects c M) p → ExpectedBy c M AH User N K p
expected_from c M AH User N K Tree node known p h = turn h.0 h.1 h.2 h.3
  where
    stays : (o : Policy) (way : Way) → Tree (o ∷ way) → RootIn User (o ∷ way) → Expects c M o p → ExpectedBy c M AH User N K p
    stays o way t root (inl e) =
        (let n : N o = (node o).1 (way, t, root) in inl (subst (λ x. IsMapped c.mappings.now x → ⊥) (sym e.1) e.0, subst N (sym e.1) n))
    stays o way t root (inr e) = inr (e.0, (o, e.1, inl ((node o).1 (way, t, root))))

    made : (o : Policy) (way : Way) → IsMapped c.mappings.now o × M × AH × (way ≡ []) × ((other : Way) → Tree (o ∷ other) → ⊥) → RootIn User (o ∷ way) → Expects c M o p
        → ExpectedBy c M AH User N K p
    made o way t root (inl e) = absurd (e.0 t.0)
    made o way t root (inr e) =
        inr (e.0, (o, e.1, inr (λ k. (let found = (known o).0 k in t.4 found.0 found.1), t.2, subst (λ v. RootIn User (o ∷ v)) t.3 root)))

    either : (o : Policy) (way : Way) → LeafBy c M AH Tree (o ∷ way) → RootIn User (o ∷ way) → Expects c M o p → ExpectedBy c M AH User N K p
    either o way (inl t) root top = stays o way t.0 root top
    either o way (inr t) root top = made o way t root top

    turn : (way : Way) → LeafBy c M AH Tree way → TopExpects (Expects c M) way p → RootIn User way → ExpectedBy c M AH User N K p
    turn [] t top root = absurd t
    turn (o ∷ way) t top root = either o way t root top

-- one certificate more: the nodes of the graph expect what those of the tree expect
more_agree : (start : Counters) (User : Policy → Type 0) (c : PolicyFacts) (before : List PolicyFacts)
    → ((q : Policy) → IsExpected start User before q ↔ SomeLeaf User (IsLeaf start before) (ExpectsAfter start before) q)
    → ((q : Policy) → IsExpected start Everyone before q ↔ SomeLeaf Everyone (IsLeaf start before) (ExpectsAfter start before) q)
    → (p : Policy) → IsExpected start User (c ∷ before) p ↔ SomeLeaf User (IsLeaf start (c ∷ before)) (ExpectsAfter start (c ∷ before)) p
more_agree start User c before mine all p =
    let AC = AllowsAny start false c before in
    let AB = HasAny start false before in
    let M = MapsAfter start before in
    let AH = HasAny start false (c ∷ before) in
    let X = IsExpected start User before in
    let K = IsExpected start Everyone before in
    let Leaf = IsLeaf start before in
    let E = ExpectsAfter start before in
    let Tree = TreeBy c AC AB Leaf E in
    let node = node_agrees c AC AB User X K Leaf E mine all in
    let known = node_agrees c AC AB Everyone K K Leaf E all all in (
      expected_to c M AH User (NodeBy c AC AB User X K) (NodeBy c AC AB Everyone K K) Tree node known p,
      expected_from c M AH User (NodeBy c AC AB User X K) (NodeBy c AC AB Everyone K K) Tree node known p,
    )

leaves_agree : (start : Counters) (User : Policy → Type 0) (before : List PolicyFacts) (p : Policy)
    → IsExpected start User before p ↔ SomeLeaf User (IsLeaf start before) (ExpectsAfter start before) p
leaves_agree start User [] p = (λ h. absurd h, λ h. absurd h.1)
leaves_agree start User (c ∷ before) p = more_agree start User c before (leaves_agree start User before) (leaves_agree start Everyone before) p

pub tree_agrees : (start : Counters) (User : Policy → Type 0) (last : Bool) (c : PolicyFacts) (before : List PolicyFacts) (p : Policy)
    → IsNode start User last c before p ↔ SomeNode User (IsTreeNode start last c before) p
tree_agrees start User last c before p =
    node_agrees c (AllowsAny start last c before) (HasAny start false before) User (IsExpected start User before) (IsExpected start Everyone before)
    (IsLeaf start before) (ExpectsAfter start before) (leaves_agree start User before) (leaves_agree start Everyone before) p
