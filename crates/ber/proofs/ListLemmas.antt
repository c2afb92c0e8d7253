-- Lists around one of their elements.
use Rattle.std.proofs.Common.{◌≡◌, ℕ, suc, ◌-◌, ◌<◌, ◌≤◌, List, [], ◌∷◌, ◌++◌, length, take, drop, get_or, refl, sym, ap, ◌∙◌, drop-cons, arith}
use Rattle.std.proofs.lemmas.List.{take-append-drop}
use Rattle.std.proofs.lemmas.Grind.{common_steps}
use Rattle.std.specs.Int.Digits.{AllBelowBase}

-- a list is what is before an element, the element, and what is after it
pub around : (xs : List ℕ) (i : ℕ) → i < length xs → xs ≡ take i xs ++ get_or xs i 0 ∷ drop (suc i) xs
around xs i h = sym (take-append-drop i xs) ∙ ap (λ l. take i xs ++ l) (drop-cons xs i 0 h)

-- what is left of a list after a place, as a slice of it
pub rest_of : (k : ℕ) (xs : List ℕ) → take (length xs - k) (drop k xs) ≡ drop k xs
rest_of k xs = grind (arith, common_steps)

-- the first element of a list, and the rest
pub first_of : (xs : List ℕ) → 1 ≤ length xs → xs ≡ get_or xs 0 0 ∷ take (length xs - 1) (drop 1 xs)
first_of xs h = around xs 0 (omega arith) ∙ ap (λ l. get_or xs 0 0 ∷ l) (sym (rest_of 1 xs))

-- the first two elements of a list, and the rest
pub two_of : (xs : List ℕ) → 2 ≤ length xs → xs ≡ get_or xs 0 0 ∷ get_or xs 1 0 ∷ drop 2 xs
two_of [] h = absurd (omega arith)
two_of (x ∷ []) h = absurd (omega arith)
two_of (x ∷ y ∷ xs) h = refl

-- a list with no element
pub none_of : (xs : List ℕ) → length xs < 1 → xs ≡ []
none_of [] h = refl
none_of (x ∷ xs) h = absurd (omega arith)

-- the front of octets is octets
pub front_below : (xs ys : List ℕ) → ((i : ℕ) → get_or (xs ++ ys) i 0 < 256) → AllBelowBase 256 xs
front_below [] ys h = tt
front_below (x ∷ xs) ys h = (h 0, front_below xs ys (λ i. h (suc i)))
