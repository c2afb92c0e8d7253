-- Fields in sequence.
use Rattle.std.proofs.Common.{◌≡◌, ◌||◌, ℕ, ◌+◌, ◌≤◌, Bool, true, false, IsTrue, Result, Ok, Err, List, length, drop, inr, inl, refl, sym, ap, ◌∙◌, subst, length-drop, arith}
use Rattle.der_base.specs.declared.encoding_rules.EncodingRules.{EncodingRules}
use Rattle.der_core.specs.ReaderState.{ReaderState, rest_of, advanced_state, IsSound, Same}
use Rattle.der_core.specs.Decode.{Passes, ReadsOrLacks}
use Rattle.der_core.specs.Fields.{FieldsNext, fields_levels}
use Rattle.der_core.proofs.ContentsLemmas.{rest_advanced}
use Rattle.der_core.proofs.StateLemmas.{length-rest}
use Rattle.der_core.proofs.DecodeLemmas.{read_on, lacks_only}

-- a reader that has not failed later had not failed before
pub working_before : {s t : ReaderState} → Same s t → t.failed ≡ false → s.failed ≡ false
working_before {s} {t} same w = go s.failed refl
  where
    go : (b : Bool) → s.failed ≡ b → s.failed ≡ false
    go false e = e
    go true e = (let f : IsTrue t.failed = same.failed (rw e refl) in let no : false ≡ true = sym w ∙ f in cc)

-- the remaining octets after a value that was consumed
pub rest_passed : {Next : EncodingRules → List ℕ → ℕ → Type 0} {s t : ReaderState} → (p : Passes Next s t) → rest_of t ≡ drop p.octets (rest_of s)
rest_passed {s = s} p = ap rest_of p.leaves ∙ rest_advanced s p.octets p.there

module _ {A B : Type 0} {First : A → EncodingRules → List ℕ → ℕ → Type 0} {Second : B → EncodingRules → List ℕ → ℕ → Type 0} {s u t : ReaderState} where
  -- two values that were consumed in sequence are a pair
  pub both_pass : {a : A} {b : B} → Passes (First a) s u → Passes (Second b) u t → Passes (FieldsNext First Second (a, b)) s t
  both_pass {b = b} p q =
      let rules_are : u.rules ≡ s.rules = ap (λ (x : ReaderState). x.rules) p.leaves in
      let sum : s.position + p.octets + q.octets ≡ s.position + (p.octets + q.octets) = omega arith in
      record {
        octets = p.octets + q.octets;
        working = p.working;
        next = record {
          first = p.octets;
          second = q.octets;
          next = p.next;
          following = subst (λ x. Second b s.rules x q.octets) (rest_passed p) (subst (λ r. Second b r (rest_of u) q.octets) rules_are q.next);
          whole = refl;
        };
        there = omega (arith, p.there, q.there, ap length (rest_passed p), length-drop p.octets (rest_of s));
        leaves = q.leaves ∙ ap (λ x. advanced_state x q.octets) p.leaves ∙ ap (λ n. record s { position = n }) sum;
      }

  pub fields_pass : {a : A} {b : B} → (s.failed ≡ false → u.failed ≡ false → Passes (First a) s u) → (u.failed ≡ false → t.failed ≡ false → Passes (Second b) u t) → Same u t
      → s.failed ≡ false → t.failed ≡ false → Passes (FieldsNext First Second (a, b)) s t
  fields_pass first second same working after = let between = working_before same after in both_pass (first working between) (second between after)

-- two values in sequence are read: the first, then the second after it
module _ {A B E : Type 0} (First : A → EncodingRules → List ℕ → ℕ → Type 0) (Second : B → EncodingRules → List ℕ → ℕ → Type 0) (needs_first needs_second : EncodingRules → ℕ)
    (out_of_memory : E → Bool) (takes_first takes_second : Bool) (s u : ReaderState) (v : A × B) (m : ℕ) where
  -- the first is second_complete
  first_next : (answer : Result A E) → s.failed ≡ false → (next : FieldsNext First Second v s.rules (rest_of s) m) → s.depth + fields_levels needs_first needs_second s.rules ≤ 64
      → ((w : A) (n : ℕ) → s.failed ≡ false → First w s.rules (rest_of s) n → s.depth + needs_first s.rules ≤ 64 → ReadsOrLacks out_of_memory takes_first s n answer u)
      → ReadsOrLacks out_of_memory takes_first s next.first answer u
  first_next answer working next deep complete = complete v.0 next.first working next.next (omega (arith, deep))

  pub first_lacks : (e : E) → s.failed ≡ false → FieldsNext First Second v s.rules (rest_of s) m → s.depth + fields_levels needs_first needs_second s.rules ≤ 64
      → ((w : A) (n : ℕ) → s.failed ≡ false → First w s.rules (rest_of s) n → s.depth + needs_first s.rules ≤ 64 → ReadsOrLacks {A = A} out_of_memory takes_first s n (Err e) u)
      → ReadsOrLacks {A = A × B} out_of_memory (takes_first || takes_second) s m (Err e) u
  first_lacks e working next deep complete =
      let lacks = lacks_only A out_of_memory s u next.first (first_next (Err e) working next deep complete) in
      inr (rw lacks.0 refl, lacks.1)

  -- the second is after the first
  module _ (a : A) (t : ReaderState) (sound : IsSound s) (same : Same s u) (working : s.failed ≡ false) (next : FieldsNext First Second v s.rules (rest_of s) m)
      (deep : s.depth + fields_levels needs_first needs_second s.rules ≤ 64)
      (complete : (w : A) (n : ℕ) → s.failed ≡ false → First w s.rules (rest_of s) n → s.depth + needs_first s.rules ≤ 64 → ReadsOrLacks out_of_memory takes_first s n (Ok a) u) where
    between : u ≡ advanced_state s next.first
    between = read_on E out_of_memory s next.first a (first_next (Ok a) working next deep complete)

    second_is_next : (other : Result B E) → ((w : B) (n : ℕ) → u.failed ≡ false → Second w u.rules (rest_of u) n → u.depth + needs_second u.rules ≤ 64 → ReadsOrLacks out_of_memory takes_second u n other t)
        → ReadsOrLacks out_of_memory takes_second u next.second other t
    second_is_next other second_complete =
        let place : u.position ≡ s.position + next.first = ap (λ (x : ReaderState). x.position) between in
        let fits : next.first ≤ length (rest_of s) = omega (arith, place, same.within, same.end, length-rest s sound) in
        let left : rest_of u ≡ drop next.first (rest_of s) = ap rest_of between ∙ rest_advanced s next.first fits in
        let rules_are : u.rules ≡ s.rules = ap (λ (x : ReaderState). x.rules) between in
        let depth_is : u.depth ≡ s.depth = ap (λ (x : ReaderState). x.depth) between in
        let following : Second v.1 u.rules (rest_of u) next.second = subst (λ x. Second v.1 u.rules x next.second) (sym left) (subst (λ r. Second v.1 r (drop next.first (rest_of s)) next.second) (sym rules_are) next.following) in
        second_complete v.1 next.second (ap (λ (x : ReaderState). x.failed) between ∙ working) following (omega (arith, deep, depth_is, ap needs_second rules_are))

    pub second_lacks : (e : E) → ((w : B) (n : ℕ) → u.failed ≡ false → Second w u.rules (rest_of u) n → u.depth + needs_second u.rules ≤ 64 → ReadsOrLacks {A = B} out_of_memory takes_second u n (Err e) t)
        → ReadsOrLacks {A = A × B} out_of_memory (takes_first || takes_second) s m (Err e) t
    second_lacks e second_complete =
        let lacks = lacks_only B out_of_memory u t next.second (second_is_next (Err e) second_complete) in
        inr (either takes_first takes_second lacks.0, lacks.1)
      where
        either : (x y : Bool) → y ≡ true → (x || y) ≡ true
        either true y h = refl
        either false y h = h

    pub both_complete : (b : B) → ((w : B) (n : ℕ) → u.failed ≡ false → Second w u.rules (rest_of u) n → u.depth + needs_second u.rules ≤ 64 → ReadsOrLacks out_of_memory takes_second u n (Ok b) t)
        → ReadsOrLacks {A = A × B} {E = E} out_of_memory (takes_first || takes_second) s m (Ok (a, b)) t
    both_complete b second_complete =
        let there : t ≡ advanced_state u next.second = read_on E out_of_memory u next.second b (second_is_next (Ok b) second_complete) in
        let sum : s.position + next.first + next.second ≡ s.position + m = omega (arith, next.whole) in
        inl (refl, there ∙ ap (λ x. advanced_state x next.second) between ∙ ap (λ n. record s { position = n }) sum)
