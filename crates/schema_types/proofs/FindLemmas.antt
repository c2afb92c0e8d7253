-- Lists in ascending byte order, and a list between them.
use Rattle.std.proofs.Common.{◌≡◌, ◌≢◌, ℕ, zero, suc, ◌+◌, ◌-◌, ◌<◌, ◌≤◌, true, false, List, refl, sym, ap, ◌∙◌, subst, ⊎_elim, arith}
use Rattle.std.proofs.lemmas.Bool.{cases_lt}
use Rattle.std.proofs.lemmas.Cmp.{nat_list_cmp_total}
use Rattle.std.specs.Ordering.{is_lt, is_eq, ordering_reverse}
use Rattle.std.specs.declared.cmp.Ordering.{Ordering}
use Rattle.std.specs.declared.cmp.Ordering.TheVariants.{Less, Equal, Greater}
use Rattle.der_base.specs.Order.{byte_order}
use Rattle.der_base.proofs.OrderLemmas.{equal_octets}

pub less_from : (o : Ordering) → is_lt o ≡ true → o ≡ Less
less_from Less e = refl
less_from Equal e = cc
less_from Greater e = cc

pub equal_from : (o : Ordering) → is_eq o ≡ true → o ≡ Equal
equal_from Less e = cc
equal_from Equal e = refl
equal_from Greater e = cc

-- what is neither less nor equal is greater, so the other way round it is less
pub turned : (a b : List ℕ) (o : Ordering) → byte_order a b ≡ o → is_lt o ≡ false → is_eq o ≡ false → byte_order b a ≡ Less
turned a b Less e l q = cc
turned a b Equal e l q = cc
turned a b Greater e l q = nat_list_cmp_total.antisymm b a ∙ ap ordering_reverse e

module _ (list : ℕ → List ℕ) (low high : ℕ) (rises : (k : ℕ) → low ≤ k → k + 1 < high → is_lt (byte_order (list k) (list (k + 1))) ≡ true) where
  far : (d i : ℕ) → low ≤ i → i + d + 1 < high → byte_order (list i) (list (i + d + 1)) ≡ Less
  far zero i a b =
      let e : i + 1 ≡ i + zero + 1 = omega arith in
      subst (λ (n : ℕ). byte_order (list i) (list n) ≡ Less) e (less_from (byte_order (list i) (list (i + 1))) (rises i a (omega arith)))
  far (suc d) i a b =
      let e : (i + d + 1) + 1 ≡ i + suc d + 1 = omega arith in
      let last = less_from (byte_order (list (i + d + 1)) (list ((i + d + 1) + 1))) (rises (i + d + 1) (omega arith) (omega arith)) in
      subst (λ (n : ℕ). byte_order (list i) (list n) ≡ Less) e (nat_list_cmp_total.trans (list i) (list (i + d + 1)) (list ((i + d + 1) + 1)) (far d i a (omega arith)) last)

  before : (i j : ℕ) → low ≤ i → i < j → j < high → byte_order (list i) (list j) ≡ Less
  before i j a b c =
      let e : i + (j - i - 1) + 1 ≡ j = omega arith in
      subst (λ (n : ℕ). byte_order (list i) (list n) ≡ Less) e (far (j - i - 1) i a (omega arith))

  -- all up to one that is before a list are before it
  pub all_below : (m : ℕ) (x : List ℕ) → low ≤ m → m < high → byte_order (list m) x ≡ Less → (k : ℕ) → low ≤ k → k < m + 1 → byte_order (list k) x ≡ Less
  all_below m x a b e k c d =
      ⊎_elim
      (λ lt. nat_list_cmp_total.trans (list k) (list m) x (before k m c lt b) e)
      (λ ge. let q : m ≡ k = omega arith in subst (λ (n : ℕ). byte_order (list n) x ≡ Less) q e)
      (cases_lt k m)

  -- a list that is before one is before all from there on
  pub all_above : (m : ℕ) (x : List ℕ) → low ≤ m → m < high → byte_order x (list m) ≡ Less → (k : ℕ) → m ≤ k → k < high → byte_order x (list k) ≡ Less
  all_above m x a b e k c d =
      ⊎_elim
      (λ lt. nat_list_cmp_total.trans x (list m) (list k) e (before m k a lt d))
      (λ ge. let q : m ≡ k = omega arith in subst (λ (n : ℕ). byte_order x (list n) ≡ Less) q e)
      (cases_lt m k)

-- of two lists one of which is before the other, the other is another
pub differ_below : (a b : List ℕ) → byte_order a b ≡ Less → a ≢ b
differ_below a b e q = let f : Equal ≡ Less = sym (equal_octets a b q) ∙ e in cc

pub differ_above : (a b : List ℕ) → byte_order b a ≡ Less → a ≢ b
differ_above a b e q = let f : Equal ≡ Less = sym (equal_octets b a (sym q)) ∙ e in cc
