-- Chains, one candidate longer or shorter.
use Rattle.std.proofs.Common.{◌≡◌, ◌⊎◌, ◌≤◌, ℕ, List, [], ◌∷◌, ◌++◌, take, drop, inl, inr, refl, sym, ap, subst, ◌∙◌}
use Rattle.std.proofs.lemmas.List.{append_assoc, take-append-drop, take-take}
use Rattle.path_search.specs.Chains.{AreKnown, IsChain, IsNext}

pub known : (F : List ℕ → ℕ → Type 0) (count : ℕ) (s : List ℕ) → IsChain F count s → AreKnown count s
known F count s h = λ before after c e. (h before after c e).known

-- where a chain with one more candidate has a candidate
split_last : (p before after : List ℕ) (j c : ℕ) → p ++ j ∷ [] ≡ before ++ c ∷ after → ((before ≡ p) × (c ≡ j)) ⊎ ((rest : List ℕ) × (p ≡ before ++ c ∷ rest))
split_last [] [] after j c e = inl (refl, cc)
split_last [] (b ∷ []) after j c e = cc
split_last [] (b ∷ d ∷ bs) after j c e = cc
split_last (a ∷ p) [] after j c e = inr (p, cc)
split_last (a ∷ p) (b ∷ bs) after j c e = elim (split_last p bs after j c (let f : (a ∷ (p ++ j ∷ [])) ≡ b ∷ (bs ++ c ∷ after) = e in cc)) [
  | inl (same, is) ↦ inl (cc, is)
  | inr (rest, same) ↦ inr (rest, cc)
]

pub longer : (F : List ℕ → ℕ → Type 0) (count : ℕ) (p : List ℕ) (j : ℕ) → IsChain F count p → IsNext F count p j → IsChain F count (p ++ j ∷ [])
longer F count p j h next = λ before after c e.
    elim (split_last p before after j c e) [
      | inl (same, is) ↦ subst (λ b. IsNext F count b c) (sym same) (subst (IsNext F count p) (sym is) next)
      | inr (rest, split) ↦ h before rest c split
    ]

pub shorter : (F : List ℕ → ℕ → Type 0) (count : ℕ) (p r : List ℕ) → IsChain F count (p ++ r) → IsChain F count p
shorter F count p r h = λ before after c e. h before (after ++ r) c (ap (λ x. x ++ r) e ∙ append_assoc before (c ∷ after) r)

pub no_chain : (F : List ℕ → ℕ → Type 0) (count : ℕ) → IsChain F count []
no_chain F count [] after c e = cc
no_chain F count (b ∷ bs) after c e = cc

pub front : (F : List ℕ → ℕ → Type 0) (count : ℕ) (room : List ℕ) (i n : ℕ) → i ≤ n → IsChain F count (take n room) → IsChain F count (take i room)
front F count room i n le h =
    let e : take i room ++ drop i (take n room) ≡ take n room = ap (λ x. x ++ drop i (take n room)) (sym (take-take i n room le)) ∙ take-append-drop i (take n room) in
    shorter F count (take i room) (drop i (take n room)) (subst (IsChain F count) (sym e) h)
