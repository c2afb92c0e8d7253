-- Lemmas on sorted spans.
use native.Mathlib.Numerals.{unary_clauses}
use Rattle.std.proofs.Common.{◌≡◌, ℕ, ◌+◌, Bool, false, List, [], ◌∷◌, is_lt, IsSortedBy, get_or, refl, ap, subst, arith}
use Rattle.der_base.specs.Order.{byte_order}
use Rattle.der_base.proofs.OrderLemmas.{less_from_before}
use Rattle.der_c_core.specs.SetOrder.{SpansAscend}
use Rattle.der_c_core.specs.declared.span.DerSpan.{DerSpan}

-- a sorted list without its first element is sorted
rest_sorted : {X : Type 0} (lt : X → X → Bool) (x : X) (xs : List X) → IsSortedBy lt (x ∷ xs) → IsSortedBy lt xs
rest_sorted lt x xs up k d low inside =
    let at = λ (i : ℕ). get_or-cons x xs i d in
    subst (λ v. lt v (get_or xs k d) ≡ false) (at (k + 1)) (subst (λ v. lt (get_or (x ∷ xs) (k + 1 + 1) d) v ≡ false) (at k) (up (k + 1) d (omega arith) (omega arith)))
  where
    get_or-cons : {X : Type 0} (x : X) (xs : List X) (i : ℕ) (d : X) → get_or (x ∷ xs) (i + 1) d ≡ get_or xs i d
    get_or-cons x xs i d = simp unary_clauses refl

-- whether the encoding of one element comes before that of another
abbrev pub is_before : DerSpan → DerSpan → Bool
is_before a b = is_lt (byte_order a.octets.now b.octets.now)

-- sorted spans ascend
pub ascends : (xs : List DerSpan) → IsSortedBy is_before xs → SpansAscend xs
ascends [] up = tt
ascends (x ∷ []) up = tt
ascends (x ∷ y ∷ more) up = (
  λ before. let not_less = up 0 x (omega arith) (omega arith) in let less = ap is_lt (less_from_before _ _ before) in cc,
  ascends (y ∷ more) (rest_sorted is_before x (y ∷ more) up),
)
