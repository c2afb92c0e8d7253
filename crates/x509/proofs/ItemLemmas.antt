-- Lemmas on the items of lists: walks that came to the end of a list, or stopped at an item.
use Rattle.std.proofs.Common.{◌≡◌, ℕ, ◌+◌, Bool, List, [], ◌∷◌, ◌++◌, Option, Some, length, All, refl, sym, ap, subst, ◌∙◌, append_assoc, arith, count_by, cond}
use Rattle.std.proofs.lemmas.List.Elements.{All-head, All-tail, All-cons, All-nil}
use Rattle.std.proofs.lemmas.List.Sums.{sum_by-cons}
use Rattle.std.specs.Iterator.{Yields}
use Rattle.der_asn1.specs.SequenceOf.{AllValid, joined_encodings, IsListOf}
use Rattle.x509.specs.Firsts.{FailsFirstAt, IsFirstAt}

append_nil : (l : List ℕ) → l ++ [] ≡ l
append_nil [] = refl
append_nil (o ∷ l) = ap (λ x. o ∷ x) (append_nil l)

-- no encoding begins another, and none is empty
pub record AreApartItems {A : Type 0} (valid : A → Type 0) (encoding : A → List ℕ) : Type 0 where
  pub front : (v w : A) (x y : List ℕ) → valid v → valid w → encoding v ++ x ≡ encoding w ++ y → (encoding v ≡ encoding w) × (x ≡ y)
  pub some : (v : A) (x : List ℕ) → encoding v ++ x ≡ [] → ⊥

-- what a walk gave is the beginning of its list
module _ {S A : Type 0} (steps : S → Option A → S → Type 0) (rest : S → List ℕ) (valid : A → Type 0) (encoding : A → List ℕ)
    (gives : (s : S) (v : A) (t : S) → steps s (Some v) t → valid v × (rest s ≡ encoding v ++ rest t)) where
  yielded_valid : (vs : List A) (s t : S) → Yields steps s vs t → AllValid valid vs
  yielded_valid [] s t y = tt
  yielded_valid (v ∷ vs) s t y = ((gives s v y.0 y.1).0, yielded_valid vs y.0 t y.2)

  yielded_joined : (vs : List A) (s t : S) → Yields steps s vs t → rest s ≡ joined_encodings encoding vs ++ rest t
  yielded_joined [] s t y = ap rest y
  yielded_joined (v ∷ vs) s t y =
      (gives s v y.0 y.1).1 ∙ ap (λ x. encoding v ++ x) (yielded_joined vs y.0 t y.2) ∙ sym (append_assoc (encoding v) (joined_encodings encoding vs) (rest t))

-- two lists with the same octets
module _ {A : Type 0} (valid : A → Type 0) (encoding : A → List ℕ) (apart : AreApartItems valid encoding) where
  module _ (p : A → Bool) (keep : (v w : A) → valid v → valid w → encoding v ≡ encoding w → p v ≡ p w) where
    count_of_same : (vs ws : List A) → AllValid valid vs → AllValid valid ws → joined_encodings encoding vs ≡ joined_encodings encoding ws → count_by p vs ≡ count_by p ws
    count_of_same [] [] are them e = refl
    count_of_same [] (w ∷ ws) are them e = absurd (apart.some w (joined_encodings encoding ws) (sym e))
    count_of_same (v ∷ vs) [] are them e = absurd (apart.some v (joined_encodings encoding vs) e)
    count_of_same (v ∷ vs) (w ∷ ws) are them e =
        let f = apart.front v w (joined_encodings encoding vs) (joined_encodings encoding ws) are.0 them.0 e in
        let one = keep v w are.0 them.0 f.0 in
        let more = count_of_same vs ws are.1 them.1 f.1 in
        sum_by-cons (λ x. cond (p x) 1 0) v vs ∙ ap (λ b. cond b 1 0 + count_by p vs) one ∙ ap (λ n. cond (p w) 1 0 + n) more ∙ sym (sum_by-cons (λ x. cond (p x) 1 0) w ws)

    -- a walk that counted to the end
    module _ {S : Type 0} (steps : S → Option A → S → Type 0) (rest : S → List ℕ)
        (gives : (s : S) (v : A) (t : S) → steps s (Some v) t → valid v × (rest s ≡ encoding v ++ rest t))
        (octets : List ℕ) (vs : List A) (s t : S) (yields : Yields steps s vs t) (starts : rest s ≡ octets) (l : IsListOf valid encoding octets) where
      pub counted : rest t ≡ [] → count_by p vs ≡ count_by p l.items
      counted none =
          count_of_same vs l.items (yielded_valid steps rest valid encoding gives vs s t yields) l.are_valid
          (sym (yielded_joined steps rest valid encoding gives vs s t yields ∙ ap (λ x. joined_encodings encoding vs ++ x) none ∙ append_nil (joined_encodings encoding vs)) ∙ starts ∙ l.joined)

  module _ (P : A → Type 0) (keep : (v w : A) → valid v → valid w → encoding v ≡ encoding w → P v → P w) where
    all_of_same : (vs ws : List A) → AllValid valid vs → AllValid valid ws → joined_encodings encoding vs ≡ joined_encodings encoding ws → All P vs → All P ws
    all_of_same [] [] are them e h = All-nil P
    all_of_same [] (w ∷ ws) are them e h = absurd (apart.some w (joined_encodings encoding ws) (sym e))
    all_of_same (v ∷ vs) [] are them e h = absurd (apart.some v (joined_encodings encoding vs) e)
    all_of_same (v ∷ vs) (w ∷ ws) are them e h =
        let f = apart.front v w (joined_encodings encoding vs) (joined_encodings encoding ws) are.0 them.0 e in
        All-cons P w ws (keep v w are.0 them.0 f.0 (All-head P v vs h)) (all_of_same vs ws are.1 them.1 f.1 (All-tail P v vs h))

    module _ (Q : A → Type 0) (keep_end : (v w : A) → valid v → valid w → encoding v ≡ encoding w → Q v → Q w) where
      put_first : (w : A) (ws : List A) (i : ℕ) → P w → IsFirstAt P Q ws i → IsFirstAt P Q (w ∷ ws) (i + 1)
      put_first w ws i h f =
          record {
            before = w ∷ f.before;
            item = f.item;
            after = f.after;
            split = ap (λ x. w ∷ x) f.split;
            at = omega (arith, f.at);
            holds = All-cons P w f.before h f.holds;
            stops = f.stops;
          }

      first_of_same : (vs : List A) (v : A) (r : List ℕ) (ws : List A) → AllValid valid vs → valid v → AllValid valid ws
          → joined_encodings encoding vs ++ (encoding v ++ r) ≡ joined_encodings encoding ws → All P vs → Q v → IsFirstAt P Q ws (length vs)
      first_of_same [] v r [] are is them e h q = absurd (apart.some v r e)
      first_of_same [] v r (w ∷ ws) are is them e h q =
          let f = apart.front v w r (joined_encodings encoding ws) is them.0 e in
          record {
            before = [];
            item = w;
            after = ws;
            split = refl;
            at = refl;
            holds = All-nil P;
            stops = keep_end v w is them.0 f.0 q;
          }
      first_of_same (u ∷ vs) v r [] are is them e h q =
          absurd (apart.some u (joined_encodings encoding vs ++ (encoding v ++ r)) (sym (append_assoc (encoding u) (joined_encodings encoding vs) (encoding v ++ r)) ∙ e))
      first_of_same (u ∷ vs) v r (w ∷ ws) are is them e h q =
          let f = apart.front u w (joined_encodings encoding vs ++ (encoding v ++ r)) (joined_encodings encoding ws) are.0 them.0
          (sym (append_assoc (encoding u) (joined_encodings encoding vs) (encoding v ++ r)) ∙ e) in
          let more = put_first w ws (length vs) (keep u w are.0 them.0 f.0 (All-head P u vs h)) (first_of_same vs v r ws are.1 is them.1 f.1 (All-tail P u vs h) q) in
          subst (IsFirstAt P Q (w ∷ ws)) (let one : length vs + 1 ≡ length (u ∷ vs) = omega arith in one) more

    -- a walk that came to the end, and one that stopped at an item
    module _ {S : Type 0} (steps : S → Option A → S → Type 0) (rest : S → List ℕ)
        (gives : (s : S) (v : A) (t : S) → steps s (Some v) t → valid v × (rest s ≡ encoding v ++ rest t))
        (octets : List ℕ) (vs : List A) (s t : S) (yields : Yields steps s vs t) (starts : rest s ≡ octets) (l : IsListOf valid encoding octets) where
      pub finished : All P vs → rest t ≡ [] → All P l.items
      finished h none =
          all_of_same vs l.items (yielded_valid steps rest valid encoding gives vs s t yields) l.are_valid
          (sym (yielded_joined steps rest valid encoding gives vs s t yields ∙ ap (λ x. joined_encodings encoding vs ++ x) none ∙ append_nil (joined_encodings encoding vs)) ∙ starts ∙ l.joined) h

      pub stopped_with : (Q : A → Type 0) → ((v w : A) → valid v → valid w → encoding v ≡ encoding w → Q v → Q w)
          → All P vs → (v : A) (u : S) (i : ℕ) → steps t (Some v) u → Q v → i ≡ length vs → IsFirstAt P Q l.items i
      stopped_with Q keep_end h v u i given q at =
          let g = gives t v u given in
          subst (IsFirstAt P Q l.items) (sym at)
          (first_of_same Q keep_end vs v (rest u) l.items (yielded_valid steps rest valid encoding gives vs s t yields) g.0 l.are_valid
          (ap (λ x. joined_encodings encoding vs ++ x) (sym g.1) ∙ sym (yielded_joined steps rest valid encoding gives vs s t yields) ∙ starts ∙ l.joined) h q)

      pub stopped : All P vs → (v : A) (u : S) (i : ℕ) → steps t (Some v) u → (P v → ⊥) → i ≡ length vs → FailsFirstAt P l.items i
      stopped = stopped_with (λ v. P v → ⊥) (λ v w is are e q p. q (keep w v are is (sym e) p))
