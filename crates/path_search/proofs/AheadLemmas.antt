-- Chains that are ahead of a place (`IsAhead`), when the place moves on.
use Rattle.std.proofs.Common.{◌≡◌, ◌⊎◌, ◌+◌, ◌<◌, ◌≤◌, ℕ, List, [], ◌∷◌, ◌++◌, length, inl, inr, refl, sym, ap, arith}
use Rattle.std.proofs.lemmas.Bool.{cases_lt}
use Rattle.path_search.specs.Chains.{AreKnown}
use Rattle.path_search.specs.Places.{IsAhead}

pub known_tail : (count c : ℕ) (cs : List ℕ) → AreKnown count (c ∷ cs) → AreKnown count cs
known_tail count c cs known = λ before after d e. known (c ∷ before) after d (ap (λ x. c ∷ x) e)

-- each chain is ahead of the first place
pub ahead_first : (s : List ℕ) → IsAhead [] 0 s
ahead_first [] = tt
ahead_first (c ∷ cs) = omega arith

-- a chain that is ahead begins with all candidates up to one, or it is ahead without this one
pub moved : (p r : List ℕ) (q n m count : ℕ) (s : List ℕ) → AreKnown count s → ((c : ℕ) → c < count → q < c → m ≤ c) → IsAhead (p ++ q ∷ r) n s
    → ((t : List ℕ) × (s ≡ p ++ q ∷ t) × IsAhead r n t) ⊎ IsAhead p m s
moved [] r q n m count [] known up h = absurd h
moved [] r q n m count (c ∷ cs) known up (inl lt) = inr (up c (known [] cs c refl) lt)
moved [] r q n m count (c ∷ cs) known up (inr (e, rest)) = inl (cs, ap (λ x. x ∷ cs) (sym e), rest)
moved (a ∷ p) r q n m count [] known up h = absurd h
moved (a ∷ p) r q n m count (c ∷ cs) known up (inl lt) = inr (inl lt)
moved (a ∷ p) r q n m count (c ∷ cs) known up (inr (e, rest)) = elim (moved p r q n m count cs (known_tail count c cs known) up rest) [
  | inl (t, same, more) ↦ inl (t, cc, more)
  | inr later ↦ inr (inr (e, later))
]

-- and the other way
pub moved_back : (p r : List ℕ) (q n m count : ℕ) (s : List ℕ) → AreKnown count s → ((c : ℕ) → c < count → m ≤ c → q < c) → length p < length s → IsAhead p m s
    → IsAhead (p ++ q ∷ r) n s
moved_back [] r q n m count [] known down lt h = absurd (let never : ⊥ = omega (arith, lt) in never)
moved_back [] r q n m count (c ∷ cs) known down lt h = inl (down c (known [] cs c refl) h)
moved_back (a ∷ p) r q n m count [] known down lt h = absurd h
moved_back (a ∷ p) r q n m count (c ∷ cs) known down lt (inl less) = inl less
moved_back (a ∷ p) r q n m count (c ∷ cs) known down lt (inr (e, rest)) =
    inr (e, moved_back p r q n m count cs (known_tail count c cs known) down (omega (arith, lt)) rest)

-- a candidate is put behind the chain
pub pushed : (p : List ℕ) (j : ℕ) (s : List ℕ) → length p < length s → IsAhead p j s → IsAhead (p ++ j ∷ []) 0 s
pushed [] j [] lt h = absurd (let never : ⊥ = omega (arith, lt) in never)
pushed [] j (c ∷ cs) lt h = elim (cases_lt j c) [ inl less ↦ inl less | inr ge ↦ inr (omega (arith, h, ge), ahead_first cs) ]
pushed (a ∷ p) j [] lt h = absurd h
pushed (a ∷ p) j (c ∷ cs) lt (inl less) = inl less
pushed (a ∷ p) j (c ∷ cs) lt (inr (e, rest)) = inr (e, pushed p j cs (omega (arith, lt)) rest)

pub pushed_back : (p : List ℕ) (j : ℕ) (s : List ℕ) → IsAhead (p ++ j ∷ []) 0 s → IsAhead p j s
pushed_back [] j [] h = absurd h
pushed_back [] j (c ∷ cs) (inl less) = omega (arith, less)
pushed_back [] j (c ∷ cs) (inr (e, rest)) = omega (arith, e)
pushed_back (a ∷ p) j [] h = absurd h
pushed_back (a ∷ p) j (c ∷ cs) (inl less) = inl less
pushed_back (a ∷ p) j (c ∷ cs) (inr (e, rest)) = inr (e, pushed_back p j cs rest)

-- a candidate is left out
pub skipped : (p : List ℕ) (j : ℕ) (s : List ℕ) → length p < length s → IsAhead p j s → ((t : List ℕ) × (s ≡ p ++ j ∷ t)) ⊎ IsAhead p (j + 1) s
skipped [] j [] lt h = absurd (let never : ⊥ = omega (arith, lt) in never)
skipped [] j (c ∷ cs) lt h = elim (cases_lt j c) [
  | inl less ↦ inr (omega (arith, less))
  | inr ge ↦ inl (cs, ap (λ x. x ∷ cs) (let e : c ≡ j = omega (arith, h, ge) in e))
]
skipped (a ∷ p) j [] lt h = absurd h
skipped (a ∷ p) j (c ∷ cs) lt (inl less) = inr (inl less)
skipped (a ∷ p) j (c ∷ cs) lt (inr (e, rest)) = elim (skipped p j cs (omega (arith, lt)) rest) [
  | inl (t, same) ↦ inl (t, cc)
  | inr later ↦ inr (inr (e, later))
]

pub skipped_back : (p : List ℕ) (j : ℕ) (s : List ℕ) → IsAhead p (j + 1) s → IsAhead p j s
skipped_back [] j [] h = tt
skipped_back [] j (c ∷ cs) h = omega (arith, h)
skipped_back (a ∷ p) j [] h = absurd h
skipped_back (a ∷ p) j (c ∷ cs) (inl less) = inl less
skipped_back (a ∷ p) j (c ∷ cs) (inr (e, rest)) = inr (e, skipped_back p j cs rest)

-- no chain goes on with a candidate that is not known
pub beyond : (count n : ℕ) (before t : List ℕ) → AreKnown count (before ++ t) → count ≤ n → 0 < length t → IsAhead [] n t → ⊥
beyond count n before [] known ge lt h = let never : ⊥ = omega (arith, lt) in never
beyond count n before (c ∷ cs) known ge lt h = let never : ⊥ = omega (arith, known before cs c refl, ge, h) in never

-- a chain is not ahead of the place after it
pub not_after : (p : List ℕ) (q m : ℕ) → (m ≤ q → ⊥) → IsAhead p m (p ++ q ∷ []) → ⊥
not_after [] q m never h = never h
not_after (a ∷ p) q m never (inl less) = let wrong : ⊥ = omega (arith, less) in wrong
not_after (a ∷ p) q m never (inr (e, rest)) = not_after p q m never rest

-- a chain is ahead of its own place
pub ahead_self : (p : List ℕ) (n : ℕ) → IsAhead p n p
ahead_self [] n = tt
ahead_self (a ∷ p) n = inr (refl, ahead_self p n)
