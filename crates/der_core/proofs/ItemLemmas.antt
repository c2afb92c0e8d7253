-- Two iterators whose items are compared, pair by pair.
use Rattle.std.proofs.Common.{◌≡◌, ◌≢◌, ℕ, List, [], ◌∷◌, ◌++◌, Option, Some, None, Ok, Err, IfOk, IsErrAnd, refl, sym, ap, ◌∙◌, subst}
use Rattle.std.specs.Iterator.{Yields, AlwaysYields}
use Rattle.std.specs.List.{AllZip, AllByRecursion, flat_map}
use Rattle.std.specs.Ordering.{ordering_then}
use Rattle.std.specs.declared.cmp.Ordering.{Ordering}
use Rattle.std.specs.declared.cmp.Ordering.TheVariants.{Less, Equal, Greater}
use Rattle.std.proofs.iter.Next.{Yields-more}
use Rattle.der_base.specs.declared.error.Error.{Error}
use Rattle.der_base.specs.Order.{byte_order, AreDelimited}
use Rattle.der_base.proofs.OrderLemmas.{order_parts, then_unequal}
use Rattle.der_core.specs.DerOrd.{Compared}
use Rattle.der_core.specs.Items.{and_compared, lists_order, LastCompared, ComparesItems, OfItems, EachPlace, ComparesJoined, SortsJoined}

AllZip-more : {A B : Type 0} (R : A → B → Type 0) (xs : List A) (ys : List B) (x : A) (y : B) → AllZip R xs ys → R x y → AllZip R (xs ++ x ∷ []) (ys ++ y ∷ [])
AllZip-more R [] [] x y h r = (r, tt)
AllZip-more R [] (b ∷ ys) x y h r = absurd h
AllZip-more R (a ∷ xs) [] x y h r = absurd h
AllZip-more R (a ∷ xs) (b ∷ ys) x y h r = (h.0, AllZip-more R xs ys x y h.1 r)

AllZip-weaker : {A B : Type 0} (R Q : A → B → Type 0) → ((x : A) (y : B) → R x y → Q x y) → (xs : List A) (ys : List B) → AllZip R xs ys → AllZip Q xs ys
AllZip-weaker R Q f [] [] h = tt
AllZip-weaker R Q f [] (b ∷ ys) h = absurd h
AllZip-weaker R Q f (a ∷ xs) [] h = absurd h
AllZip-weaker R Q f (a ∷ xs) (b ∷ ys) h = (f a b h.0, AllZip-weaker R Q f xs ys h.1)

-- how values are compared: the exact result, and the octets by which they are ordered
pub record Comparison (A : Type 0) : Type 1 where
  pub order : A → A → Compared
  pub octets : A → List ℕ
  pub by_octets : A → A → Type 0
  pub has_header : A → Type 0
  pub delimits : Type 0

-- the guarantees for a call that returned
pub record Answered {A : Type 0} (k : Comparison A) (x y : A) (answer : Compared) : Type 0 where
  pub ok : k.by_octets x y → IfOk answer (λ o. o ≡ byte_order (k.octets x) (k.octets y))
  pub complete : k.by_octets x y → k.has_header x → k.has_header y → answer ≡ Ok (byte_order (k.octets x) (k.octets y))
  pub exact : answer ≡ k.order x y

-- a result that is `Equal`
pub answered_equal : {A : Type 0} {k : Comparison A} {x y : A} (o : Ordering) → o ≡ Equal → Answered k x y (Ok o) → Answered k x y (Ok Equal)
answered_equal {k = k} {x = x} {y = y} o e r = subst (λ z. Answered k x y (Ok z)) e r

-- an error that was passed on
pub answered_error : {A : Type 0} {k : Comparison A} {x y : A} (e : Error) (answer : Compared) → IsErrAnd answer (λ f. f ≡ e) → Answered k x y (Err e) → Answered k x y answer × (answer ≢ Ok Equal)
answered_error e (Ok o) h r = absurd h
answered_error {k = k} {x = x} {y = y} e (Err f) h r = (subst (λ z. Answered k x y (Err z)) (sym h) r, λ z. (cc))

-- two iterators have returned items that are equal, pair by pair
pub record Matched {S T A B : Type 0} (v : A → B) (k : Comparison B) (steps : S → Option A → S → Type 0) (others : T → Option A → T → Type 0) (s : S) (t : T) (u : S) (w : T) : Type 0 where
  pub these : List A
  pub those : List A
  pub gave_these : Yields steps s these u
  pub gave_those : Yields others t those w
  pub equal : AllZip (λ x y. Answered k (v x) (v y) (Ok Equal)) these those

pub matched_none : {S T A B : Type 0} (v : A → B) (k : Comparison B) (steps : S → Option A → S → Type 0) (others : T → Option A → T → Type 0) (s : S) (t : T) → Matched v k steps others s t s t
matched_none v k steps others s t = record { these = []; those = []; gave_these = refl; gave_those = refl; equal = tt }

module _ {S T A B : Type 0} {v : A → B} {k : Comparison B} {steps : S → Option A → S → Type 0} {others : T → Option A → T → Type 0} {s : S} {t : T} {u : S} {w : T} where
  pub matched_more : (m : Matched v k steps others s t u w) (u' : S) (w' : T) (x y : A) → steps u (Some x) u' → others w (Some y) w' → Answered k (v x) (v y) (Ok Equal) → Matched v k steps others s t u' w'
  matched_more m u' w' x y a b r = record {
    these = m.these ++ x ∷ [];
    those = m.those ++ y ∷ [];
    gave_these = Yields-more steps s m.these u x u' m.gave_these a;
    gave_those = Yields-more others t m.those w y w' m.gave_those b;
    equal = AllZip-more (λ x y. Answered k (v x) (v y) (Ok Equal)) m.these m.those x y m.equal r;
  }

none_before : (a b : List ℕ) → a ≢ [] → byte_order [] (a ++ b) ≡ Less
none_before [] b h = absurd (h refl)
none_before (o ∷ a) b h = refl

some_after : (a b : List ℕ) → a ≢ [] → byte_order (a ++ b) [] ≡ Greater
some_after [] b h = absurd (h refl)
some_after (o ∷ a) b h = refl

module _ {A B : Type 0} (v : A → B) where
  -- an iterator that returned these items, and then this one, has all of those
  abbrev pub Begins : List A → Option A → List B → Type 0
  Begins [] None all = all ≡ []
  Begins [] (Some x) all = (rest : List B) × (all ≡ v x ∷ rest)
  Begins (x ∷ xs) o all = (rest : List B) × (all ≡ v x ∷ rest) × Begins xs o rest

  begins : {S : Type 0} (steps : S → Option A → S → Type 0) (s t : S) (xs : List A) (o : Option A) (u : S) (all : List B) → Yields steps s xs t → steps t o u → AlwaysYields steps v s all → Begins xs o all
  begins steps s t [] None u [] y st al = refl
  begins steps s t [] None u (b ∷ bs) y st al = absurd (al.0 u (subst (λ j. steps j None u) (sym y) st))
  begins steps s t [] (Some x) u [] y st al = absurd (al x u (subst (λ j. steps j (Some x) u) (sym y) st))
  begins steps s t [] (Some x) u (b ∷ bs) y st al = (bs, ap (λ z. z ∷ bs) (sym (al.1 x u (subst (λ j. steps j (Some x) u) (sym y) st)).0))
  begins steps s t (x ∷ xs) o u [] y st al = absurd (al x y.0 y.1)
  begins steps s t (x ∷ xs) o u (b ∷ bs) y st al =
      let r = al.1 x y.0 y.1 in
      (bs, ap (λ z. z ∷ bs) (sym r.0), begins steps y.0 t xs o u bs y.2 st r.1)

  module _ (k : Comparison B) where
    -- the guarantees for the result after equal items
    abbrev pub LastAnswered : Option A → Option A → Compared → Type 0
    LastAnswered None None answer = answer ≡ Ok Equal
    LastAnswered None (Some y) answer = answer ≡ Ok Less
    LastAnswered (Some x) None answer = answer ≡ Ok Greater
    LastAnswered (Some x) (Some y) answer = Answered k (v x) (v y) answer × (answer ≢ Ok Equal)

    last_compared : (o p : Option A) (answer : Compared) → LastAnswered o p answer → LastCompared (λ x y. k.order (v x) (v y)) o p answer
    last_compared None None answer h = h
    last_compared None (Some y) answer h = h
    last_compared (Some x) None answer h = h
    last_compared (Some x) (Some y) answer h = (h.0.exact, h.1)

    abbrev AllEqual : List A → List A → Type 0
    AllEqual = AllZip (λ x y. Answered k (v x) (v y) (Ok Equal))

    unequal : (r more : Compared) → r ≢ Ok Equal → r ≡ and_compared r more
    unequal (Ok Less) more h = refl
    unequal (Ok Equal) more h = absurd (h refl)
    unequal (Ok Greater) more h = refl
    unequal (Err e) more h = refl

    -- the result is that of the lists
    exactly : (xs ys : List A) (o p : Option A) (is js : List B) (answer : Compared) → Begins xs o is → Begins ys p js → AllEqual xs ys → LastAnswered o p answer → answer ≡ lists_order k.order is js
    exactly [] [] None None is js answer f g e h = h ∙ sym (ap (λ l. lists_order k.order l js) f ∙ ap (lists_order k.order []) g)
    exactly [] [] None (Some y) is js answer f g e h = h ∙ sym (ap (λ l. lists_order k.order l js) f ∙ ap (lists_order k.order []) g.1)
    exactly [] [] (Some x) None is js answer f g e h = h ∙ sym (ap (λ l. lists_order k.order l js) f.1 ∙ ap (lists_order k.order (v x ∷ f.0)) g)
    exactly [] [] (Some x) (Some y) is js answer f g e h =
        unequal answer (lists_order k.order f.0 g.0) h.1 ∙ ap (λ r. and_compared r (lists_order k.order f.0 g.0)) h.0.exact
        ∙ sym (ap (λ l. lists_order k.order l js) f.1 ∙ ap (lists_order k.order (v x ∷ f.0)) g.1)
    exactly [] (y ∷ ys) o p is js answer f g e h = absurd e
    exactly (x ∷ xs) [] o p is js answer f g e h = absurd e
    exactly (x ∷ xs) (y ∷ ys) o p is js answer f g e h =
        exactly xs ys o p f.0 g.0 answer f.2 g.2 e.1 h ∙ ap (λ r. and_compared r (lists_order k.order f.0 g.0)) e.0.exact
        ∙ sym (ap (λ l. lists_order k.order l js) f.1 ∙ ap (lists_order k.order (v x ∷ f.0)) g.1)

    abbrev joined : List B → List ℕ
    joined = flat_map k.octets

    abbrev joined_order : List B → List B → Compared
    joined_order is js = Ok (byte_order (joined is) (joined js))

    -- in octets, if P holds for each pair of items
    module _ (P : B → B → Type 0) (so : (x y : B) → P x y → k.by_octets x y) (answer : Compared)
        (learn : (x y : B) → P x y → Answered k x y answer → answer ≡ Ok (byte_order (k.octets x) (k.octets y))) (d : AreDelimited k.octets) where
      in_octets : (xs ys : List A) (o p : Option A) (is js : List B) → Begins xs o is → Begins ys p js → AllEqual xs ys → LastAnswered o p answer → EachPlace P is js → answer ≡ joined_order is js
      in_octets [] [] None None is js f g e h w = h ∙ sym (ap (λ l. joined_order l js) f ∙ ap (joined_order []) g)
      in_octets [] [] None (Some y) is js f g e h w =
          h ∙ ap Ok (sym (none_before (k.octets (v y)) (joined g.0) (d.some (v y)))) ∙ sym (ap (λ l. joined_order l js) f ∙ ap (joined_order []) g.1)
      in_octets [] [] (Some x) None is js f g e h w =
          h ∙ ap Ok (sym (some_after (k.octets (v x)) (joined f.0) (d.some (v x)))) ∙ sym (ap (λ l. joined_order l js) f.1 ∙ ap (joined_order (v x ∷ f.0)) g)
      in_octets [] [] (Some x) (Some y) is js f g e h w =
          let place : P (v x) (v y) = (subst (λ l. EachPlace P (v x ∷ f.0) l) g.1 (subst (λ l. EachPlace P l js) f.1 w)).0 in
          let known = learn (v x) (v y) place h.0 in
          known
          ∙ ap Ok (sym (then_unequal (byte_order (k.octets (v x)) (k.octets (v y))) (byte_order (joined f.0) (joined g.0)) (λ z. h.1 (known ∙ ap Ok z)))
          ∙ sym (order_parts (k.octets (v x)) (k.octets (v y)) (joined f.0) (joined g.0) (d.apart (v x) (v y))))
          ∙ sym (ap (λ l. joined_order l js) f.1 ∙ ap (joined_order (v x ∷ f.0)) g.1)
      in_octets [] (y ∷ ys) o p is js f g e h w = absurd e
      in_octets (x ∷ xs) [] o p is js f g e h w = absurd e
      in_octets (x ∷ xs) (y ∷ ys) o p is js f g e h w =
          let place : EachPlace P (v x ∷ f.0) (v y ∷ g.0) = subst (λ l. EachPlace P (v x ∷ f.0) l) g.1 (subst (λ l. EachPlace P l js) f.1 w) in
          let same : byte_order (k.octets (v x)) (k.octets (v y)) ≡ Equal = sym (e.0.ok (so (v x) (v y) place.0)) in
          in_octets xs ys o p f.0 g.0 f.2 g.2 e.1 h place.1
          ∙ ap Ok (ap (λ r. ordering_then r (byte_order (joined f.0) (joined g.0))) (sym same)
          ∙ sym (order_parts (k.octets (v x)) (k.octets (v y)) (joined f.0) (joined g.0) (d.apart (v x) (v y))))
          ∙ sym (ap (λ l. joined_order l js) f.1 ∙ ap (joined_order (v x ∷ f.0)) g.1)

    -- whenever there is a result
    sorted_octets : (xs ys : List A) (o p : Option A) (is js : List B) (answer : Compared) → AreDelimited k.octets → Begins xs o is → Begins ys p js → AllEqual xs ys → LastAnswered o p answer → EachPlace k.by_octets is js
        → IfOk answer (λ r. r ≡ byte_order (joined is) (joined js))
    sorted_octets xs ys o p is js (Ok r) d f g e h w =
        let all : Ok r ≡ joined_order is js = in_octets k.by_octets (λ x y s. s) (Ok r) (λ x y s a. ap Ok (a.ok s)) d xs ys o p is js f g e h w in
        cc
    sorted_octets xs ys o p is js (Err r) d f g e h w = tt

-- the guarantees for the whole comparison
abbrev pub Guarantees : {S T A B : Type 0} → (A → B) → Comparison B → (S → Option A → S → Type 0) → (T → Option A → T → Type 0) → S → T → Compared → Type 0
Guarantees v k steps others s t answer = record {
  ran : ComparesItems steps others s t (λ x y. k.order (v x) (v y)) answer;
  ok : k.delimits → OfItems steps others v s t (SortsJoined k.by_octets k.octets answer);
  complete : k.delimits → OfItems steps others v s t (ComparesJoined (λ x y. k.by_octets x y × k.has_header x × k.has_header y) k.octets answer);
  exact : OfItems steps others v s t (λ xs ys. answer ≡ lists_order k.order xs ys);
}

pub reported : {S T A B : Type 0} {v : A → B} {k : Comparison B} {steps : S → Option A → S → Type 0} {others : T → Option A → T → Type 0} {s : S} {t : T} {u : S} {w : T}
    → (k.delimits → AreDelimited k.octets) → (m : Matched v k steps others s t u w) (o p : Option A) (u' : S) (w' : T) (answer : Compared)
    → steps u o u' → others w p w' → LastAnswered v k o p answer → Guarantees v k steps others s t answer
reported {v = v} {k = k} {steps = steps} {others = others} {s = s} {t = t} {u = u} {w = w} law m o p u' w' answer a b h = record {
  ran = record {
    these = m.these;
    those = m.those;
    next_of_these = o;
    next_of_those = p;
    this_left = u';
    that_left = w';
    gave_these = (u, m.gave_these, a);
    gave_those = (w, m.gave_those, b);
    equal = AllZip-weaker (λ x y. Answered k (v x) (v y) (Ok Equal)) (λ x y. k.order (v x) (v y) ≡ Ok Equal) (λ x y r. sym r.exact) m.these m.those m.equal;
    last = last_compared v k o p answer h;
  };
  ok = λ d xs ys f g e. sorted_octets v k m.these m.those o p xs ys answer (law d) (begins v steps s u m.these o u' xs m.gave_these a f) (begins v others t w m.those p w' ys m.gave_those b g) m.equal h e;
  complete = λ d xs ys f g e. in_octets v k (λ x y. k.by_octets x y × k.has_header x × k.has_header y) (λ x y w. w.0) answer (λ x y w r. r.complete w.0 w.1 w.2) (law d)
      m.these m.those o p xs ys (begins v steps s u m.these o u' xs m.gave_these a f) (begins v others t w m.those p w' ys m.gave_those b g) m.equal h e;
  exact = λ xs ys f g. exactly v k m.these m.those o p xs ys answer (begins v steps s u m.these o u' xs m.gave_these a f) (begins v others t w m.those p w' ys m.gave_those b g) m.equal h;
}

-- what holds for any two items holds for each pair
pub each_place : {A : Type 0} (is_next : A → A → Type 0) → ((x y : A) → is_next x y) → (xs ys : List A) → EachPlace is_next xs ys
each_place is_next h [] ys = tt
each_place is_next h (x ∷ xs) [] = tt
each_place is_next h (x ∷ xs) (y ∷ ys) = (h x y, each_place is_next h xs ys)

-- what holds for any two items holds for each pair, together with what holds for all items of both
-- lists
pub each_place_all : {A : Type 0} (is_next : A → A → Type 0) (holds : A → Type 0) → ((x y : A) → is_next x y) → (xs ys : List A) → AllByRecursion holds xs → AllByRecursion holds ys
    → EachPlace (λ x y. is_next x y × holds x × holds y) xs ys
each_place_all is_next holds h [] ys p q = tt
each_place_all is_next holds h (x ∷ xs) [] p q = tt
each_place_all is_next holds h (x ∷ xs) (y ∷ ys) p q = ((h x y, p.0, q.0), each_place_all is_next holds h xs ys p.1 q.1)
