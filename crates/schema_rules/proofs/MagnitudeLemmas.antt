-- A number in base 256 that is too large for another digit.
use Rattle.std.proofs.Common.{◌≡◌, ℕ, suc, ◌+◌, ◌*◌, ◌^◌, ◌<◌, ◌≤◌, List, ◌∷◌, ◌++◌, length, take, drop, map, sym, ap, ◌∙◌, slice_index_or, arith}
use Rattle.std.proofs.Math.Seq.{drop-cons}
use Rattle.std.proofs.lemmas.List.{take-append-drop, map-append}
use Rattle.std.proofs.lemmas.Int.Digits.{number_after_append, number_after_ge}
use Rattle.std.specs.Int.Digits.{number_from_digits, number_from_digits_after}

pub no_room : (f : ℕ → ℕ) (xs : List ℕ) (i : ℕ) → i < length xs → 2 ^ 55 ≤ number_from_digits 256 (map f (take i xs)) → number_from_digits 256 (map f xs) < 2 ^ 63 → ⊥
no_room f xs i h large small =
    let split : map f xs ≡ map f (take i xs) ++ map f (drop i xs) = ap (map f) (sym (take-append-drop i xs)) ∙ map-append f (take i xs) (drop i xs) in
    let next : map f (drop i xs) ≡ f (slice_index_or xs i 0) ∷ map f (drop (suc i) xs) = ap (map f) (drop-cons xs i 0 h) in
    let whole : number_from_digits 256 (map f xs) ≡ number_from_digits_after 256 (number_from_digits 256 (map f (take i xs)) * 256 + f (slice_index_or xs i 0)) (map f (drop (suc i) xs)) =
    ap (number_from_digits 256) (split ∙ ap (λ l. map f (take i xs) ++ l) next) ∙ number_after_append 256 0 (map f (take i xs)) (f (slice_index_or xs i 0) ∷ map f (drop (suc i) xs)) in
    let most = number_after_ge 256 (number_from_digits 256 (map f (take i xs)) * 256 + f (slice_index_or xs i 0)) (map f (drop (suc i) xs)) (omega arith) in
    omega (arith, whole, most)
