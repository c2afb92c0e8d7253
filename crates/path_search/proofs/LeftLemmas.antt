-- Chains that are left, when the place moves on. The chain of a place is `take n room`.
use Rattle.std.proofs.Common.{◌≡◌, ◌⊎◌, ◌+◌, ◌-◌, ◌<◌, ◌≤◌, ℕ, List, [], ◌∷◌, ◌++◌, length, get_or, take, drop, inl, inr, refl, sym, ap, subst, ◌∙◌, arith}
use Rattle.std.proofs.lemmas.Bool.{cases_lt}
use Rattle.std.proofs.lemmas.List.{append_assoc, drop_more, get_or-take, length-append, length-take-le, take-append-drop, take-take, take_more}
use Rattle.path_search.specs.Chains.{AreKnown, IsChain, IsNext}
use Rattle.path_search.specs.Places.{IsAhead}
use Rattle.path_search.proofs.AheadLemmas.{ahead_first, beyond, moved, moved_back, not_after, pushed, pushed_back, skipped, skipped_back}
use Rattle.path_search.proofs.ChainLemmas.{known}

-- `IsLeft`, by its parts
abbrev pub Left : ℕ → List ℕ → ℕ → List ℕ → Type 0
Left level p n s = (level < length s) ⊎ ((length s ≡ level) × IsAhead p n s)

-- the last candidate of a chain
pub last_of : (room : List ℕ) (n : ℕ) (d : ℕ) → 0 < n → n ≤ length room → take n room ≡ take (n - 1) room ++ get_or room (n - 1) d ∷ []
last_of room n d pos le = let e : n - 1 + 1 ≡ n = omega (arith, pos) in subst (λ k. take k room ≡ take (n - 1) room ++ get_or room (n - 1) d ∷ []) e (take_more room (n - 1) d (omega (arith, pos, le)))

pub nothing : (t : List ℕ) → length t ≡ 0 → t ≡ []
nothing [] e = refl
nothing (c ∷ cs) e = absurd (let never : ⊥ = omega (arith, e) in never)

-- the chain of a place is passed
pub passed_whole : (p : List ℕ) (q n m count level : ℕ) (s : List ℕ) → length p + 1 ≡ level → AreKnown count s → ((c : ℕ) → c < count → q < c → m ≤ c)
    → Left level (p ++ q ∷ []) n s → (s ≡ p ++ q ∷ []) ⊎ Left level p m s
passed_whole p q n m count level s size known up (inl longer) = inr (inl longer)
passed_whole p q n m count level s size known up (inr (same, h)) = elim (moved p [] q n m count s known up h) [
  | inl (t, e, more) ↦ inl (e ∙ ap (λ x. p ++ q ∷ x) (nothing t (omega (arith, same, size, ap length e, length-append p (q ∷ t)))))
  | inr later ↦ inr (inr (same, later))
]

-- all candidates after it were tried
pub passed_tried : (p : List ℕ) (q n m count level : ℕ) (s : List ℕ) → length p + 1 < level → count ≤ n → AreKnown count s → ((c : ℕ) → c < count → q < c → m ≤ c)
    → Left level (p ++ q ∷ []) n s → Left level p m s
passed_tried p q n m count level s size ge known up (inl longer) = inl longer
passed_tried p q n m count level s size ge known up (inr (same, h)) = elim (moved p [] q n m count s known up h) [
  | inl (t, e, more) ↦
      let all : AreKnown count ((p ++ q ∷ []) ++ t) = subst (AreKnown count) (e ∙ sym (append_assoc p (q ∷ []) t)) known in
      absurd (beyond count n (p ++ q ∷ []) t all ge (omega (arith, same, size, ap length e, length-append p (q ∷ t))) more)
  | inr later ↦ inr (same, later)
]

-- what is left after a shorter chain was left
pub passed_back : (p r : List ℕ) (q n m count level : ℕ) (s : List ℕ) → length p < level → AreKnown count s → ((c : ℕ) → c < count → m ≤ c → q < c)
    → Left level p m s → Left level (p ++ q ∷ r) n s
passed_back p r q n m count level s size known down (inl longer) = inl longer
passed_back p r q n m count level s size known down (inr (same, h)) =
    inr (same, moved_back p r q n m count s known down (omega (arith, same, size)) h)

-- the chain itself is not left
pub passed_not : (p : List ℕ) (q m count level : ℕ) (s : List ℕ) → s ≡ p ++ q ∷ [] → length s ≡ level → AreKnown count s → ((c : ℕ) → c < count → m ≤ c → q < c)
    → Left level p m s → ⊥
passed_not p q m count level s e whole known down (inl longer) = let never : ⊥ = omega (arith, longer, whole) in never
passed_not p q m count level s e whole known down (inr (same, ahead)) =
    not_after p q m (λ le. let wrong : ⊥ = omega (arith, down q (known p [] q e) le) in wrong) (subst (IsAhead p m) e ahead)

-- the next level
pub next_level : (level n : ℕ) (s : List ℕ) → Left level [] n s → ((length s ≡ level) × IsAhead [] n s) ⊎ Left (level + 1) [] 0 s
next_level level n s (inr (same, h)) = inl (same, h)
next_level level n s (inl longer) = elim (cases_lt (level + 1) (length s)) [
  | inl less ↦ inr (inl less)
  | inr ge ↦ inr (inr (omega (arith, longer, ge), ahead_first s))
]

pub next_level_back : (level n : ℕ) (s : List ℕ) → Left (level + 1) [] 0 s → Left level [] n s
next_level_back level n s (inl longer) = inl (omega (arith, longer))
next_level_back level n s (inr (same, h)) = inl (omega (arith, same))

-- a candidate is put behind the chain
pub put_behind : (p : List ℕ) (j level : ℕ) (s : List ℕ) → length p < level → Left level p j s → Left level (p ++ j ∷ []) 0 s
put_behind p j level s lt (inl longer) = inl longer
put_behind p j level s lt (inr (same, h)) = inr (same, pushed p j s (omega (arith, same, lt)) h)

pub put_behind_back : (p : List ℕ) (j level : ℕ) (s : List ℕ) → Left level (p ++ j ∷ []) 0 s → Left level p j s
put_behind_back p j level s (inl longer) = inl longer
put_behind_back p j level s (inr (same, h)) = inr (same, pushed_back p j s h)

-- a candidate that is no next one is left out
pub left_out : (F : List ℕ → ℕ → Type 0) (count : ℕ) (p : List ℕ) (j level : ℕ) (s : List ℕ) → length p < level → IsChain F count s → (IsNext F count p j → ⊥)
    → Left level p j s → Left level p (j + 1) s
left_out F count p j level s lt is never (inl longer) = inl longer
left_out F count p j level s lt is never (inr (same, h)) = elim (skipped p j s (omega (arith, same, lt)) h) [
  | inl (t, e) ↦ absurd (never (is p t j e))
  | inr later ↦ inr (same, later)
]

pub left_out_back : (p : List ℕ) (j level : ℕ) (s : List ℕ) → Left level p (j + 1) s → Left level p j s
left_out_back p j level s (inl longer) = inl longer
left_out_back p j level s (inr (same, h)) = inr (same, skipped_back p j s h)

-- a chain with a candidate that is no longer a next one is left out
pub cut_off : (F : List ℕ → ℕ → Type 0) (count : ℕ) (p r : List ℕ) (q n m level : ℕ) (s : List ℕ) → IsChain F count s → (IsNext F count p q → ⊥)
    → ((c : ℕ) → c < count → q < c → m ≤ c) → Left level (p ++ q ∷ r) n s → Left level p m s
cut_off F count p r q n m level s is never up (inl longer) = inl longer
cut_off F count p r q n m level s is never up (inr (same, h)) = elim (moved p r q n m count s (known F count s is) up h) [
  | inl (t, e, more) ↦ absurd (never (is p t q e))
  | inr later ↦ inr (same, later)
]

-- a chain around one of its candidates
pub split_at : (room : List ℕ) (i n : ℕ) (d : ℕ) → i < n → n ≤ length room → take n room ≡ take i room ++ get_or room i d ∷ drop (i + 1) (take n room)
split_at room i n d lt le =
    let size = length-take-le n room le in
    let whole : take n room ≡ take i (take n room) ++ drop i (take n room) = sym (take-append-drop i (take n room)) in
    let rest = drop_more (take n room) i d (omega (arith, size, lt)) in
    let front : take i (take n room) ≡ take i room = take-take i n room (omega (arith, lt)) in
    let one : get_or (take n room) i d ≡ get_or room i d = get_or-take n room i d lt in
    whole ∙ ap (λ x. take i (take n room) ++ x) rest ∙ ap (λ x. x ++ get_or (take n room) i d ∷ drop (i + 1) (take n room)) front
    ∙ ap (λ x. take i room ++ x ∷ drop (i + 1) (take n room)) one
