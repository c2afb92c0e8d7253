-- Lemmas on lists of nodes that grow in the room of the caller.
use Rattle.std.proofs.Common.{◌≡◌, ◌↔◌, ◌⊎◌, ◌+◌, ◌<◌, ◌≤◌, ℕ, Bool, true, List, [], ◌∷◌, ◌++◌, Any, IfSome, Option, Some, None, length, get_or, take, inl, inr, refl, sym, subst, arith}
use Rattle.path_rules.proofs.AnyLemmas.{any_more, any_push, any_taken}
use Rattle.path_rules.specs.Growth.{Fills, Grows, IsKept}
use Rattle.path_rules.specs.Nodes.{HasAllowed, HasNode}
use Rattle.path_rules.specs.Policies.{Maps, Policy}
use Rattle.path_rules.specs.declared.filter.Filter.{Filter}
use Rattle.path_rules.specs.declared.mapping.Mapping.{Mapping}
use Rattle.path_rules.specs.declared.node.Node.{Node}

-- a node has a policy, or is allowed with it
abbrev pub Is : Node → Policy → Type 0
Is n p = n.policy.now ≡ p

abbrev pub IsAllowed : Node → Policy → Type 0
IsAllowed n p = (n.policy.now ≡ p) × (n.is_allowed ≡ true)

-- two choices, the second in other words
pub swap_right : {A B C : Type 0} → B ↔ C → (A ⊎ B) ↔ (A ⊎ C)
swap_right {A} {B} {C} e = (to, back)
  where
    to : A ⊎ B → A ⊎ C
    to (inl a) = inl a
    to (inr b) = inr (e.0 b)

    back : A ⊎ C → A ⊎ B
    back (inl a) = inl a
    back (inr c) = inr (e.1 c)

pub via : {A B C : Type 0} → A ↔ B → B ↔ C → A ↔ C
via d e = (λ a. e.0 (d.0 a), λ c. d.1 (e.1 c))

-- a list that stays
pub grows_none : (xs : List Node) (K A : Policy → Type 0) → ((p : Policy) → K p → ⊥) → ((p : Policy) → A p → ⊥) → Grows xs xs K A
grows_none xs K A nobody none = record { known = λ p. (λ h. inl h, λ h. known p h); allowed = λ p. (λ h. inl h, λ h. allowed p h) }
  where
    known : (p : Policy) → HasNode xs p ⊎ K p → HasNode xs p
    known p (inl h) = h
    known p (inr k) = absurd (nobody p k)

    allowed : (p : Policy) → HasAllowed xs p ⊎ A p → HasAllowed xs p
    allowed p (inl h) = h
    allowed p (inr a) = absurd (none p a)

-- one more node
pub grows_push : (xs ys : List Node) (n : Node) (K A : Policy → Type 0) → ys ≡ xs ++ n ∷ [] → ((p : Policy) → Is n p ↔ K p) → ((p : Policy) → IsAllowed n p ↔ A p) → Grows xs ys K A
grows_push xs ys n K A e is allowed =
    subst (λ l. Grows xs l K A) (sym e) (record {
      known = λ p. via (any_push (λ m. Is m p) xs n) (swap_right (is p));
      allowed = λ p. via (any_push (λ m. IsAllowed m p) xs n) (swap_right (allowed p));
    })

-- two steps, in other words
both : {A B C D E F : Type 0} → C ↔ (B ⊎ D) → B ↔ (A ⊎ E) → (E ⊎ D) ↔ F → C ↔ (A ⊎ F)
both {A} {B} {C} {D} {E} {F} second first words = (λ c. to (second.0 c), λ h. second.1 (back h))
  where
    more : A ⊎ E → A ⊎ F
    more (inl a) = inl a
    more (inr e) = inr (words.0 (inl e))

    to : B ⊎ D → A ⊎ F
    to (inl b) = more (first.0 b)
    to (inr d) = inr (words.0 (inr d))

    one : E ⊎ D → B ⊎ D
    one (inl e) = inl (first.1 (inr e))
    one (inr d) = inr d

    back : A ⊎ F → B ⊎ D
    back (inl a) = inl (first.1 (inl a))
    back (inr f) = one (words.1 f)

pub grows_then : (xs ys zs : List Node) (K A Ka A1 Kb A2 : Policy → Type 0) → Grows xs ys K A → Grows ys zs Ka A1
    → ((p : Policy) → (K p ⊎ Ka p) ↔ Kb p) → ((p : Policy) → (A p ⊎ A1 p) ↔ A2 p) → Grows xs zs Kb A2
grows_then xs ys zs K A Ka A1 Kb A2 first second known allowed =
    record { known = λ p. both (second.known p) (first.known p) (known p); allowed = λ p. both (second.allowed p) (first.allowed p) (allowed p) }

pub fills_then : (old mid new : List Node) (from n m a b : ℕ) (K A Ka A1 Kb A2 : Policy → Type 0) → length mid ≡ length old
    → Fills old mid from n a K A → Fills mid new n m b Ka A1
    → ((p : Policy) → (K p ⊎ Ka p) ↔ Kb p) → ((p : Policy) → (A p ⊎ A1 p) ↔ A2 p) → Fills old new from m (a + b) Kb A2
fills_then old mid new from n m a b K A Ka A1 Kb A2 same first second known allowed =
    record {
      grows = grows_then (take from old) (take n mid) (take m new) K A Ka A1 Kb A2 first.grows second.grows known allowed;
      fits = omega (arith, second.fits, same);
      few = omega (arith, second.few, first.few);
    }

-- nothing is added
pub fills_none : (room : List Node) (n : ℕ) (most : ℕ) (K A : Policy → Type 0) → n ≤ length room → ((p : Policy) → K p → ⊥) → ((p : Policy) → A p → ⊥) → Fills room room n n most K A
fills_none room n most K A fits nobody none = record { grows = grows_none (take n room) K A nobody none; fits = fits; few = omega arith }

-- a push adds a node
pub fills_push : (old new : List Node) (node : Node) (from : ℕ) (r : Option ℕ) (K A : Policy → Type 0)
    → IfSome r (λ n. (n ≡ from + 1) × (from < length old) × (take n new ≡ take from old ++ node ∷ []))
    → ((p : Policy) → Is node p ↔ K p) → ((p : Policy) → IsAllowed node p ↔ A p) → IfSome r (λ n. Fills old new from n 1 K A)
fills_push old new node from None K A h is allowed = h
fills_push old new node from (Some n) K A h is allowed =
    record {
      grows = grows_push (take from old) (take n new) node K A h.2 is allowed;
      fits = omega (arith, h.0, h.1);
      few = omega (arith, h.0);
    }

-- the same, in other words
pub fills_as : (old new : List Node) (from n most most' : ℕ) (K A Ka A1 : Policy → Type 0) → Fills old new from n most K A → most ≤ most'
    → ((p : Policy) → K p ↔ Ka p) → ((p : Policy) → A p ↔ A1 p) → Fills old new from n most' Ka A1
fills_as old new from n most most' K A Ka A1 f le known allowed =
    record {
      grows = record { known = λ p. via (f.grows.known p) (swap_right (known p)); allowed = λ p. via (f.grows.allowed p) (swap_right (allowed p)) };
      fits = f.fits;
      few = omega (arith, f.few);
    }

-- what is kept of one element more
pub pair_more : {X : Type 0} (Q : Type 0) (P : X → Type 0) (xs : List X) (i : ℕ) (d : X) → i < length xs
    → ((Q × Any P (take i xs)) ⊎ (Q × P (get_or xs i d))) ↔ (Q × Any P (take (i + 1) xs))
pair_more {X} Q P xs i d lt = (to, λ h. back h.0 ((any_more P xs i d lt).0 h.1))
  where
    to : (Q × Any P (take i xs)) ⊎ (Q × P (get_or xs i d)) → Q × Any P (take (i + 1) xs)
    to (inl h) = (h.0, (any_more P xs i d lt).1 (inl h.1))
    to (inr h) = (h.0, (any_more P xs i d lt).1 (inr h.1))

    back : Q → Any P (take i xs) ⊎ P (get_or xs i d) → (Q × Any P (take i xs)) ⊎ (Q × P (get_or xs i d))
    back q (inl h) = inl (q, h)
    back q (inr h) = inr (q, h)

pub pair_taken : {X : Type 0} (Q : Type 0) (P : X → Type 0) (xs : List X) (i : ℕ) → length xs ≤ i → (Q × Any P (take i xs)) ↔ (Q × Any P xs)
pair_taken Q P xs i le = (λ h. (h.0, (any_taken P xs i le).0 h.1), λ h. (h.0, (any_taken P xs i le).1 h.1))

-- a node that is kept
pub kept_is : (f : Filter) (q : Policy) (B : Policy → Type 0) → IsKept f q → ((p : Policy) → B p → q ≡ p) → (p : Policy) → B p ↔ (IsKept f p × B p)
kept_is f q B kept is p = (λ b. (subst (IsKept f) (is p b) kept, b), λ h. h.1)

-- a node that has what its policy asks
pub only_at : (q : Policy) (Q : Policy → Type 0) → Q q → (p : Policy) → (q ≡ p) ↔ (Q p × (q ≡ p))
only_at q Q holds p = (λ e. (subst Q e holds, e), λ h. h.1)

pub only_if : (q : Policy) (b : Bool) (Q U : Policy → Type 0) → Q q → ((b ≡ true) → U q) → (U q → b ≡ true) → (p : Policy)
    → ((q ≡ p) × (b ≡ true)) ↔ ((Q p × U p) × (q ≡ p))
only_if q b Q U holds to back p = (
  λ h. ((subst Q h.0 holds, subst U h.0 (to h.1)), h.0),
  λ h. (h.1, back (subst U (sym h.1) h.0.1)),
)

-- one policy more
pub fresh_more : {X : Type 0} (Y Z : Type 0) (P : X → Type 0) (xs : List X) (i : ℕ) (d : X) → i < length xs
    → (((Y × Any P (take i xs)) × Z) ⊎ ((Y × Z) × P (get_or xs i d))) ↔ ((Y × Any P (take (i + 1) xs)) × Z)
fresh_more {X} Y Z P xs i d lt = (to, λ h. back h.0.0 h.1 ((any_more P xs i d lt).0 h.0.1))
  where
    to : ((Y × Any P (take i xs)) × Z) ⊎ ((Y × Z) × P (get_or xs i d)) → (Y × Any P (take (i + 1) xs)) × Z
    to (inl h) = ((h.0.0, (any_more P xs i d lt).1 (inl h.0.1)), h.1)
    to (inr h) = ((h.0.0, (any_more P xs i d lt).1 (inr h.1)), h.0.1)

    back : Y → Z → Any P (take i xs) ⊎ P (get_or xs i d) → ((Y × Any P (take i xs)) × Z) ⊎ ((Y × Z) × P (get_or xs i d))
    back y z (inl h) = inl ((y, h), z)
    back y z (inr h) = inr ((y, z), h)

pub also_more : {A B C D U : Type 0} → (A ⊎ (B × D)) ↔ C → ((A × U) ⊎ ((B × U) × D)) ↔ (C × U)
also_more {A} {B} {C} {D} {U} e = (to, λ h. back h.1 (e.1 h.0))
  where
    to : (A × U) ⊎ ((B × U) × D) → C × U
    to (inl h) = (e.0 (inl h.0), h.1)
    to (inr h) = (e.0 (inr (h.0.0, h.1)), h.0.1)

    back : U → A ⊎ (B × D) → (A × U) ⊎ ((B × U) × D)
    back u (inl a) = inl (a, u)
    back u (inr h) = inr ((h.0, u), h.1)

-- a mapping is from one policy to another
abbrev pub IsPair : Policy → Policy → Mapping → Type 0
IsPair p q m = (m.issuer.now ≡ q) × (m.subject.now ≡ p)

-- one mapping more
pub target_more : (S : Policy → Type 0) (ms : List Mapping) (i : ℕ) (d : Mapping) (p : Policy) → i < length ms
    → (((q : Policy) × Maps (take i ms) q p × S q) ⊎ (((get_or ms i d).subject.now ≡ p) × S (get_or ms i d).issuer.now))
    ↔ ((q : Policy) × Maps (take (i + 1) ms) q p × S q)
target_more S ms i d p lt = (to, λ h. back h.0 h.2 ((any_more (IsPair p h.0) ms i d lt).0 h.1))
  where
    to : ((q : Policy) × Maps (take i ms) q p × S q) ⊎ (((get_or ms i d).subject.now ≡ p) × S (get_or ms i d).issuer.now) → (q : Policy) × Maps (take (i + 1) ms) q p × S q
    to (inl h) = (h.0, (any_more (IsPair p h.0) ms i d lt).1 (inl h.1), h.2)
    to (inr h) = ((get_or ms i d).issuer.now, (any_more (IsPair p (get_or ms i d).issuer.now) ms i d lt).1 (inr (refl, h.0)), h.1)

    back : (q : Policy) → S q → Any (IsPair p q) (take i ms) ⊎ IsPair p q (get_or ms i d)
        → ((q : Policy) × Maps (take i ms) q p × S q) ⊎ (((get_or ms i d).subject.now ≡ p) × S (get_or ms i d).issuer.now)
    back q s (inl h) = inl (q, h, s)
    back q s (inr h) = inr (h.1, subst S (sym h.0) s)

pub target_taken : (S : Policy → Type 0) (ms : List Mapping) (i : ℕ) (p : Policy) → length ms ≤ i
    → ((q : Policy) × Maps (take i ms) q p × S q) ↔ ((q : Policy) × Maps ms q p × S q)
target_taken S ms i p le = (
  λ h. (h.0, (any_taken (λ m. (m.issuer.now ≡ h.0) × (m.subject.now ≡ p)) ms i le).0 h.1, h.2),
  λ h. (h.0, (any_taken (λ m. (m.issuer.now ≡ h.0) × (m.subject.now ≡ p)) ms i le).1 h.1, h.2),
)

pub fresh_taken : {X : Type 0} (Y Z : Type 0) (P : X → Type 0) (xs : List X) (i : ℕ) → length xs ≤ i
    → ((Y × Any P (take i xs)) × Z) ↔ ((Y × Any P xs) × Z)
fresh_taken Y Z P xs i le = (λ h. ((h.0.0, (any_taken P xs i le).0 h.0.1), h.1), λ h. ((h.0.0, (any_taken P xs i le).1 h.0.1), h.1))

pub also_taken : {A B U : Type 0} → A ↔ B → (A × U) ↔ (B × U)
also_taken e = (λ h. (e.0 h.0, h.1), λ h. (e.1 h.0, h.1))
