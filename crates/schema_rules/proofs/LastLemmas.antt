-- The last octet of a list.
use Rattle.std.proofs.Common.{◌≡◌, ℕ, suc, ◌-◌, ◌%◌, ◌≤◌, nat_eq, nat_lt, List, [], ◌∷◌, length, slice_index_or, refl, ap, ◌∙◌, arith}
use Rattle.schema_rules.specs.Real.{is_odd}
use Rattle.schema_rules.specs.Small.{ends_whole}

abbrev last_of : List ℕ → ℕ
last_of os = slice_index_or os (length os - 1) 0

last_of_more : (o p : ℕ) (os : List ℕ) → last_of (o ∷ p ∷ os) ≡ last_of (p ∷ os)
last_of_more o p os =
    let e : length (o ∷ p ∷ os) - 1 ≡ suc (length (p ∷ os) - 1) = omega arith in
    ap (λ k. slice_index_or (o ∷ p ∷ os) k 0) e

pub last_is_odd : (os : List ℕ) → 1 ≤ length os → nat_eq (slice_index_or os (length os - 1) 0 % 2) 1 ≡ is_odd os
last_is_odd [] h = absurd (omega arith)
last_is_odd (o ∷ []) h = refl
last_is_odd (o ∷ p ∷ os) h = ap (λ k. nat_eq (k % 2) 1) (last_of_more o p os) ∙ last_is_odd (p ∷ os) (omega arith)

pub last_is_below : (os : List ℕ) → 1 ≤ length os → nat_lt (slice_index_or os (length os - 1) 0) 128 ≡ ends_whole os
last_is_below [] h = absurd (omega arith)
last_is_below (o ∷ []) h = refl
last_is_below (o ∷ p ∷ os) h = ap (λ k. nat_lt k 128) (last_of_more o p os) ∙ last_is_below (p ∷ os) (omega arith)
