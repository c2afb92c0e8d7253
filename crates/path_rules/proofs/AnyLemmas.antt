-- Lemmas on whether some element of a list has a property.
use Rattle.std.proofs.Common.{◌↔◌, ◌⊎◌, ◌+◌, ◌<◌, ◌≤◌, ℕ, List, [], ◌∷◌, ◌++◌, Any, length, get_or, take, inl, inr, refl, suc, sym, subst, zero, arith}
use Rattle.std.proofs.lemmas.List.{take_all, take_more}

any_cons : {X : Type 0} (P : X → Type 0) (x : X) (xs : List X) → Any P (x ∷ xs) → P x ⊎ Any P xs
any_cons P x xs (zero, v, lt, is, holds) = inl (subst P (sym is) holds)
any_cons P x xs (suc k, v, lt, is, holds) = inr (k, v, omega arith, is, holds)

any_head : {X : Type 0} (P : X → Type 0) (x : X) (xs : List X) → P x → Any P (x ∷ xs)
any_head P x xs holds = (0, x, omega arith, refl, holds)

any_tail : {X : Type 0} (P : X → Type 0) (x : X) (xs : List X) → Any P xs → Any P (x ∷ xs)
any_tail P x xs (k, v, lt, is, holds) = (suc k, v, omega arith, is, holds)

pub none_of : {X : Type 0} (P : X → Type 0) → Any P [] → ⊥
none_of P (k, v, lt, is, holds) = omega (arith, lt)

-- some element of a list with one more at its end
push_from : {X : Type 0} (P : X → Type 0) (xs : List X) (y : X) → Any P (xs ++ y ∷ []) → Any P xs ⊎ P y
push_from P [] y h = turn (any_cons P y [] h)
  where
    turn : P y ⊎ Any P [] → Any P [] ⊎ P y
    turn (inl here) = inr here
    turn (inr there) = inl there
push_from P (x ∷ xs) y h = turn (any_cons P x (xs ++ y ∷ []) h) (λ there. push_from P xs y there)
  where
    more : Any P xs ⊎ P y → Any P (x ∷ xs) ⊎ P y
    more (inl there) = inl (any_tail P x xs there)
    more (inr here) = inr here

    turn : P x ⊎ Any P (xs ++ y ∷ []) → (Any P (xs ++ y ∷ []) → Any P xs ⊎ P y) → Any P (x ∷ xs) ⊎ P y
    turn (inl here) rest = inl (any_head P x xs here)
    turn (inr there) rest = more (rest there)

push_old : {X : Type 0} (P : X → Type 0) (xs : List X) (y : X) → Any P xs → Any P (xs ++ y ∷ [])
push_old P [] y h = absurd (none_of P h)
push_old P (x ∷ xs) y h = turn (any_cons P x xs h) (λ there. push_old P xs y there)
  where
    turn : P x ⊎ Any P xs → (Any P xs → Any P (xs ++ y ∷ [])) → Any P (x ∷ xs ++ y ∷ [])
    turn (inl here) rest = any_head P x (xs ++ y ∷ []) here
    turn (inr there) rest = any_tail P x (xs ++ y ∷ []) (rest there)

push_new : {X : Type 0} (P : X → Type 0) (xs : List X) (y : X) → P y → Any P (xs ++ y ∷ [])
push_new P [] y h = any_head P y [] h
push_new P (x ∷ xs) y h = any_tail P x (xs ++ y ∷ []) (push_new P xs y h)

pub any_push : {X : Type 0} (P : X → Type 0) (xs : List X) (y : X) → Any P (xs ++ y ∷ []) ↔ (Any P xs ⊎ P y)
any_push P xs y = (push_from P xs y, back)
  where
    back : Any P xs ⊎ P y → Any P (xs ++ y ∷ [])
    back (inl there) = push_old P xs y there
    back (inr here) = push_new P xs y here

-- some element up to a place, or the one at the place
pub any_more : {X : Type 0} (P : X → Type 0) (xs : List X) (i : ℕ) (d : X) → i < length xs → Any P (take (i + 1) xs) ↔ (Any P (take i xs) ⊎ P (get_or xs i d))
any_more P xs i d lt =
    subst (λ l. Any P l ↔ (Any P (take i xs) ⊎ P (get_or xs i d))) (sym (take_more xs i d lt)) (any_push P (take i xs) (get_or xs i d))

pub any_taken : {X : Type 0} (P : X → Type 0) (xs : List X) (i : ℕ) → length xs ≤ i → Any P (take i xs) ↔ Any P xs
any_taken P xs i le = subst (λ l. Any P l ↔ Any P xs) (sym (take_all i xs le)) (λ h. h, λ h. h)

-- some element has a weaker property
pub any_weaker : {X : Type 0} (P Q : X → Type 0) (xs : List X) → ((x : X) → P x → Q x) → Any P xs → Any Q xs
any_weaker P Q xs weaker (k, v, lt, is, holds) = (k, v, lt, is, weaker v holds)

-- the element of a list of one
pub one_of : {X : Type 0} (P : X → Type 0) (x : X) → Any P (x ∷ []) → P x
one_of P x h = turn (any_cons P x [] h)
  where
    turn : P x ⊎ Any P [] → P x
    turn (inl here) = here
    turn (inr there) = absurd (none_of P there)

pub one_is : {X : Type 0} (P : X → Type 0) (x : X) → P x → Any P (x ∷ [])
one_is P x h = any_head P x [] h
