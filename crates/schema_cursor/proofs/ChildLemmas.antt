-- Children of an element from an index on.
use Rattle.std.proofs.Common.{◌≡◌, ◌≢◌, ◌↔◌, ◌+◌, ◌-◌, ◌≤◌, ℕ, suc, zero, List, refl, subst, arith, ⊎_elim}
use Rattle.std.proofs.lemmas.Bool.{cases_lt}
use Rattle.schema_read.specs.declared.entry.Entry.{Entry}
use Rattle.schema_cursor.specs.Children.{IsChild, IsFirstChild, IsNthChild}

-- a child is one of those from a later index on that it is not before
pub narrowed : {es : List Entry} {p a b k : ℕ} → IsChild es p a k → a ≤ b → b ≤ k → IsChild es p b k
narrowed c low high = record {
  after = high;
  there = c.there;
  inside = λ i from to. c.inside i (omega arith) to;
  around = c.around;
}

-- one after the first is one of all
pub after_first : {es : List Entry} {p from j k : ℕ} → IsFirstChild es p from j → IsChild es p (j + 1) k → IsChild es p from k
after_first {es} {p} {from} {j} f c = record {
  after = omega (arith, c.after, f.is.after);
  there = c.there;
  inside = λ i low high. ⊎_elim (λ less. f.is.inside i low (omega arith)) (λ more. c.inside i (omega arith) high) (cases_lt i (j + 1));
  around = c.around;
}

-- there is one first child
pub one_first : {es : List Entry} {p from j k : ℕ} → IsFirstChild es p from j → IsFirstChild es p from k → j ≡ k
one_first {es} {p} {from} {j} {k} f g = ⊎_elim
    (λ less. absurd (g.first j less f.is))
    (λ more. ⊎_elim (λ less. absurd (f.first k less g.is)) (λ same. omega arith) (cases_lt k j)) (cases_lt j k)

-- after the first child one less is to be passed
pub nth_after : {es : List Entry} {p from j : ℕ} (n k : ℕ) → IsFirstChild es p from j → n ≢ 0 → IsNthChild es p (n - 1) (j + 1) k ↔ IsNthChild es p n from k
nth_after zero k f other = absurd (other refl)
nth_after {es} {p} {from} {j} (suc n) k f other =
    let e : suc n - 1 ≡ n = omega arith in
    rw e ((λ is. (j, f, is)), (λ is. subst (λ i. IsNthChild es p n (i + 1) k) (one_first is.1 f) is.2))

-- where there is one after so many others, there is one
pub nth_some : {es : List Entry} {p from : ℕ} (n k : ℕ) → IsNthChild es p n from k → (j : ℕ) × IsChild es p from j
nth_some zero k is = (k, is.is)
nth_some (suc n) k is = (is.0, is.1.is)
