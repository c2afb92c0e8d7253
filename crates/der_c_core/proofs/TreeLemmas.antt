-- The nodes of a tree, in sequence.
use Rattle.std.proofs.Common.{◌≡◌, ◌≢◌, inl, inr, ℕ, zero, suc, ◌<◌, List, ◌∷◌, ◌++◌, get_or, sym, ap, ◌∙◌, subst, arith, append_assoc}
use Rattle.der_core.specs.ReaderState.{ReaderState}
use Rattle.der_c_core.specs.Tree.{Stop, finished, Nodes, closed, passed, within, ReadsNext, IsLookedInto, inside_state, node_of}
use Rattle.der_c_core.specs.Around.{NodesFrom, following_part, Moved}
use Rattle.der_c_core.specs.declared.element.DerElement.{DerElement}
use Rattle.der_c_core.specs.declared.tree.DerNode.{DerNode}

-- nodes that stop inside a part stop inside all parts around it
pub stops_from : (ends following : List ℕ) (k : ℕ) {s : ReaderState} {l : List DerNode} {stop : Stop} → stop ≢ finished → Nodes k s l stop → NodesFrom ends following k s l stop
stops_from ends following zero unfinished h = h
stops_from ends following (suc k) unfinished h = inl (unfinished, h)

-- the parts around are the same for readers that differ in position and end alone
after_part_ignores_position : (ends following : List ℕ) (k : ℕ) (s t : ReaderState) (l : List DerNode) (stop : Stop) → Moved s t → NodesFrom ends following k (following_part ends following k t) l stop → NodesFrom ends following k (following_part ends following k s) l stop
after_part_ignores_position ends following k s t l stop moved h =
    let same : following_part ends following k t ≡ following_part ends following k s = ap (following_part ends following k) moved in
    subst (λ u. NodesFrom ends following k u l stop) same h

-- after an element that is not entered
pub closed_from : (ends following : List ℕ) (k : ℕ) (s t : ReaderState) (e : DerElement) (l : List DerNode) (stop : Stop) → ReadsNext s e t → Moved s t → (IsLookedInto k e → ⊥)
    → NodesFrom ends following k t l stop → NodesFrom ends following k s (node_of k e ∷ l) stop
closed_from ends following zero s t e l stop next moved not h = closed t e next not h
closed_from ends following (suc k) s t e l stop next moved not (inl h) = inl (h.0, closed t e next not h.1)
closed_from ends following (suc k) s t e l stop next moved not (inr h) =
    inr (node_of (suc k) e ∷ h.0, h.1, ap (λ x. node_of (suc k) e ∷ x) h.2, closed t e next not h.3, after_part_ignores_position ends following k s t h.1 stop moved h.4)

-- after an element whose inner nodes are all written
pub passed_from : (ends following : List ℕ) (k : ℕ) (s t : ReaderState) (e : DerElement) (inner l : List DerNode) (stop : Stop) → ReadsNext s e t → Moved s t → IsLookedInto k e
    → Nodes (suc k) (inside_state e t) inner finished → NodesFrom ends following k t l stop → NodesFrom ends following k s (node_of k e ∷ (inner ++ l)) stop
passed_from ends following zero s t e inner l stop next moved into inside h = passed t e next into inside h
passed_from ends following (suc k) s t e inner l stop next moved into inside (inl h) = inl (h.0, passed t e next into inside h.1)
passed_from ends following (suc k) s t e inner l stop next moved into inside (inr h) =
    inr (
      node_of (suc k) e ∷ (inner ++ h.0),
      h.1,
      ap (λ x. node_of (suc k) e ∷ x) (ap (λ x. inner ++ x) h.2 ∙ sym (append_assoc inner h.0 h.1)),
      passed t e next into inside h.3,
      after_part_ignores_position ends following k s t h.1 stop moved h.4,
    )

-- two lists agree below a level
abbrev pub Agree : ℕ → List ℕ → List ℕ → Type 0
Agree k a b = (j : ℕ) → j < k → get_or a j 0 ≡ get_or b j 0

-- the nodes that follow depend only on the parts below that level
pub agree_from : (ends others following beyond : List ℕ) (k : ℕ) (s : ReaderState) (l : List DerNode) (stop : Stop) → Agree k ends others → Agree k following beyond
    → NodesFrom ends following k s l stop → NodesFrom others beyond k s l stop
agree_from ends others following beyond zero s l stop p q h = h
agree_from ends others following beyond (suc k) s l stop p q (inl h) = inl h
agree_from ends others following beyond (suc k) s l stop p q (inr h) =
    let same : following_part ends following k s ≡ following_part others beyond k s = (let e = p k (omega arith) in let b = q k (omega arith) in cc) in
    let rest : NodesFrom ends following k (following_part others beyond k s) h.1 stop = subst (λ u. NodesFrom ends following k u h.1 stop) same h.4 in
    inr (h.0, h.1, h.2, h.3, agree_from ends others following beyond k (following_part others beyond k s) h.1 stop (λ j below. p j (omega (arith, below))) (λ j below. q j (omega (arith, below))) rest)

-- inside an element that is entered, with the part around it saved
pub entered_from : (ends others following beyond : List ℕ) (k : ℕ) (s t : ReaderState) (e : DerElement) (l : List DerNode) (stop : Stop) → ReadsNext s e t → Moved s t → IsLookedInto k e
    → Agree k ends others → Agree k following beyond → get_or ends k 0 ≡ t.end → get_or following k 0 ≡ t.position
    → NodesFrom ends following (suc k) (inside_state e t) l stop → NodesFrom others beyond k s (node_of k e ∷ l) stop
entered_from ends others following beyond k s t e l stop next moved into p q end at (inl h) = stops_from others beyond k h.0 (within t e next into h.1 h.0)
entered_from ends others following beyond k s t e l stop next moved into p q end at (inr h) =
    let same : following_part ends following k (inside_state e t) ≡ t = cc in
    let rest : NodesFrom ends following k t h.1 stop = subst (λ u. NodesFrom ends following k u h.1 stop) same h.4 in
    subst (λ x. NodesFrom others beyond k s (node_of k e ∷ x) stop) (sym h.2) (passed_from others beyond k s t e h.0 h.1 stop next moved into h.3 (agree_from ends others following beyond k t h.1 stop p q rest))
