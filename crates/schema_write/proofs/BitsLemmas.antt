-- Bits of octets.
use Rattle.std.proofs.Common.{◌≡◌, ◌↔◌, ℕ, zero, suc, Bool, true, false, ◌+◌, ◌*◌, ◌-◌, ◌/◌, ◌%◌, ◌^◌, ◌<◌, ◌≤◌, ◌==◌, List, [], ◌∷◌, ◌++◌, length, take, drop, slice_index_or, refl, sym, ap, ◌∙◌, subst, ⊎_elim, length-append, length-drop, arith}
use Rattle.std.proofs.lemmas.Bool.{cases_lt}
use Rattle.std.proofs.Math.ListN.{get_or-append}
use Rattle.std.proofs.Math.Seq.{get_or-append_seam}
use Rattle.std.proofs.lemmas.List.{get_or-take, length-take-le}
use Rattle.der_asn1.specs.NamedBits.{is_one, bit_count, has_bit}
use Rattle.schema_rules.specs.Characters.{AreZeroFrom}
use Rattle.schema_write.specs.SameBits.{HasFirstBits, AreSameBits}

-- low bits that are set to zero are not among those above them
high_bit : (u k o : ℕ) → u < 8 → k < 8 → u ≤ k → o < 256 → is_one k (o - o % 2 ^ u) ≡ is_one k o
high_bit zero zero o a b c d = ap (λ (n : ℕ). n == 1) (omega (arith, d))
high_bit zero (suc zero) o a b c d = ap (λ (n : ℕ). n == 1) (omega (arith, d))
high_bit zero (suc (suc zero)) o a b c d = ap (λ (n : ℕ). n == 1) (omega (arith, d))
high_bit zero (suc (suc (suc zero))) o a b c d = ap (λ (n : ℕ). n == 1) (omega (arith, d))
high_bit zero (suc (suc (suc (suc zero)))) o a b c d = ap (λ (n : ℕ). n == 1) (omega (arith, d))
high_bit zero (suc (suc (suc (suc (suc zero))))) o a b c d = ap (λ (n : ℕ). n == 1) (omega (arith, d))
high_bit zero (suc (suc (suc (suc (suc (suc zero)))))) o a b c d = ap (λ (n : ℕ). n == 1) (omega (arith, d))
high_bit zero (suc (suc (suc (suc (suc (suc (suc zero))))))) o a b c d = ap (λ (n : ℕ). n == 1) (omega (arith, d))
high_bit zero (suc (suc (suc (suc (suc (suc (suc (suc k)))))))) o a b c d = absurd (omega (arith, b))
high_bit (suc zero) zero o a b c d = absurd (omega (arith, c))
high_bit (suc zero) (suc zero) o a b c d = ap (λ (n : ℕ). n == 1) (omega (arith, d))
high_bit (suc zero) (suc (suc zero)) o a b c d = ap (λ (n : ℕ). n == 1) (omega (arith, d))
high_bit (suc zero) (suc (suc (suc zero))) o a b c d = ap (λ (n : ℕ). n == 1) (omega (arith, d))
high_bit (suc zero) (suc (suc (suc (suc zero)))) o a b c d = ap (λ (n : ℕ). n == 1) (omega (arith, d))
high_bit (suc zero) (suc (suc (suc (suc (suc zero))))) o a b c d = ap (λ (n : ℕ). n == 1) (omega (arith, d))
high_bit (suc zero) (suc (suc (suc (suc (suc (suc zero)))))) o a b c d = ap (λ (n : ℕ). n == 1) (omega (arith, d))
high_bit (suc zero) (suc (suc (suc (suc (suc (suc (suc zero))))))) o a b c d = ap (λ (n : ℕ). n == 1) (omega (arith, d))
high_bit (suc zero) (suc (suc (suc (suc (suc (suc (suc (suc k)))))))) o a b c d = absurd (omega (arith, b))
high_bit (suc (suc zero)) zero o a b c d = absurd (omega (arith, c))
high_bit (suc (suc zero)) (suc zero) o a b c d = absurd (omega (arith, c))
high_bit (suc (suc zero)) (suc (suc zero)) o a b c d = ap (λ (n : ℕ). n == 1) (omega (arith, d))
high_bit (suc (suc zero)) (suc (suc (suc zero))) o a b c d = ap (λ (n : ℕ). n == 1) (omega (arith, d))
high_bit (suc (suc zero)) (suc (suc (suc (suc zero)))) o a b c d = ap (λ (n : ℕ). n == 1) (omega (arith, d))
high_bit (suc (suc zero)) (suc (suc (suc (suc (suc zero))))) o a b c d = ap (λ (n : ℕ). n == 1) (omega (arith, d))
high_bit (suc (suc zero)) (suc (suc (suc (suc (suc (suc zero)))))) o a b c d = ap (λ (n : ℕ). n == 1) (omega (arith, d))
high_bit (suc (suc zero)) (suc (suc (suc (suc (suc (suc (suc zero))))))) o a b c d = ap (λ (n : ℕ). n == 1) (omega (arith, d))
high_bit (suc (suc zero)) (suc (suc (suc (suc (suc (suc (suc (suc k)))))))) o a b c d = absurd (omega (arith, b))
high_bit (suc (suc (suc zero))) zero o a b c d = absurd (omega (arith, c))
high_bit (suc (suc (suc zero))) (suc zero) o a b c d = absurd (omega (arith, c))
high_bit (suc (suc (suc zero))) (suc (suc zero)) o a b c d = absurd (omega (arith, c))
high_bit (suc (suc (suc zero))) (suc (suc (suc zero))) o a b c d = ap (λ (n : ℕ). n == 1) (omega (arith, d))
high_bit (suc (suc (suc zero))) (suc (suc (suc (suc zero)))) o a b c d = ap (λ (n : ℕ). n == 1) (omega (arith, d))
high_bit (suc (suc (suc zero))) (suc (suc (suc (suc (suc zero))))) o a b c d = ap (λ (n : ℕ). n == 1) (omega (arith, d))
high_bit (suc (suc (suc zero))) (suc (suc (suc (suc (suc (suc zero)))))) o a b c d = ap (λ (n : ℕ). n == 1) (omega (arith, d))
high_bit (suc (suc (suc zero))) (suc (suc (suc (suc (suc (suc (suc zero))))))) o a b c d = ap (λ (n : ℕ). n == 1) (omega (arith, d))
high_bit (suc (suc (suc zero))) (suc (suc (suc (suc (suc (suc (suc (suc k)))))))) o a b c d = absurd (omega (arith, b))
high_bit (suc (suc (suc (suc zero)))) zero o a b c d = absurd (omega (arith, c))
high_bit (suc (suc (suc (suc zero)))) (suc zero) o a b c d = absurd (omega (arith, c))
high_bit (suc (suc (suc (suc zero)))) (suc (suc zero)) o a b c d = absurd (omega (arith, c))
high_bit (suc (suc (suc (suc zero)))) (suc (suc (suc zero))) o a b c d = absurd (omega (arith, c))
high_bit (suc (suc (suc (suc zero)))) (suc (suc (suc (suc zero)))) o a b c d = ap (λ (n : ℕ). n == 1) (omega (arith, d))
high_bit (suc (suc (suc (suc zero)))) (suc (suc (suc (suc (suc zero))))) o a b c d = ap (λ (n : ℕ). n == 1) (omega (arith, d))
high_bit (suc (suc (suc (suc zero)))) (suc (suc (suc (suc (suc (suc zero)))))) o a b c d = ap (λ (n : ℕ). n == 1) (omega (arith, d))
high_bit (suc (suc (suc (suc zero)))) (suc (suc (suc (suc (suc (suc (suc zero))))))) o a b c d = ap (λ (n : ℕ). n == 1) (omega (arith, d))
high_bit (suc (suc (suc (suc zero)))) (suc (suc (suc (suc (suc (suc (suc (suc k)))))))) o a b c d = absurd (omega (arith, b))
high_bit (suc (suc (suc (suc (suc zero))))) zero o a b c d = absurd (omega (arith, c))
high_bit (suc (suc (suc (suc (suc zero))))) (suc zero) o a b c d = absurd (omega (arith, c))
high_bit (suc (suc (suc (suc (suc zero))))) (suc (suc zero)) o a b c d = absurd (omega (arith, c))
high_bit (suc (suc (suc (suc (suc zero))))) (suc (suc (suc zero))) o a b c d = absurd (omega (arith, c))
high_bit (suc (suc (suc (suc (suc zero))))) (suc (suc (suc (suc zero)))) o a b c d = absurd (omega (arith, c))
high_bit (suc (suc (suc (suc (suc zero))))) (suc (suc (suc (suc (suc zero))))) o a b c d = ap (λ (n : ℕ). n == 1) (omega (arith, d))
high_bit (suc (suc (suc (suc (suc zero))))) (suc (suc (suc (suc (suc (suc zero)))))) o a b c d = ap (λ (n : ℕ). n == 1) (omega (arith, d))
high_bit (suc (suc (suc (suc (suc zero))))) (suc (suc (suc (suc (suc (suc (suc zero))))))) o a b c d = ap (λ (n : ℕ). n == 1) (omega (arith, d))
high_bit (suc (suc (suc (suc (suc zero))))) (suc (suc (suc (suc (suc (suc (suc (suc k)))))))) o a b c d = absurd (omega (arith, b))
high_bit (suc (suc (suc (suc (suc (suc zero)))))) zero o a b c d = absurd (omega (arith, c))
high_bit (suc (suc (suc (suc (suc (suc zero)))))) (suc zero) o a b c d = absurd (omega (arith, c))
high_bit (suc (suc (suc (suc (suc (suc zero)))))) (suc (suc zero)) o a b c d = absurd (omega (arith, c))
high_bit (suc (suc (suc (suc (suc (suc zero)))))) (suc (suc (suc zero))) o a b c d = absurd (omega (arith, c))
high_bit (suc (suc (suc (suc (suc (suc zero)))))) (suc (suc (suc (suc zero)))) o a b c d = absurd (omega (arith, c))
high_bit (suc (suc (suc (suc (suc (suc zero)))))) (suc (suc (suc (suc (suc zero))))) o a b c d = absurd (omega (arith, c))
high_bit (suc (suc (suc (suc (suc (suc zero)))))) (suc (suc (suc (suc (suc (suc zero)))))) o a b c d = ap (λ (n : ℕ). n == 1) (omega (arith, d))
high_bit (suc (suc (suc (suc (suc (suc zero)))))) (suc (suc (suc (suc (suc (suc (suc zero))))))) o a b c d = ap (λ (n : ℕ). n == 1) (omega (arith, d))
high_bit (suc (suc (suc (suc (suc (suc zero)))))) (suc (suc (suc (suc (suc (suc (suc (suc k)))))))) o a b c d = absurd (omega (arith, b))
high_bit (suc (suc (suc (suc (suc (suc (suc zero))))))) zero o a b c d = absurd (omega (arith, c))
high_bit (suc (suc (suc (suc (suc (suc (suc zero))))))) (suc zero) o a b c d = absurd (omega (arith, c))
high_bit (suc (suc (suc (suc (suc (suc (suc zero))))))) (suc (suc zero)) o a b c d = absurd (omega (arith, c))
high_bit (suc (suc (suc (suc (suc (suc (suc zero))))))) (suc (suc (suc zero))) o a b c d = absurd (omega (arith, c))
high_bit (suc (suc (suc (suc (suc (suc (suc zero))))))) (suc (suc (suc (suc zero)))) o a b c d = absurd (omega (arith, c))
high_bit (suc (suc (suc (suc (suc (suc (suc zero))))))) (suc (suc (suc (suc (suc zero))))) o a b c d = absurd (omega (arith, c))
high_bit (suc (suc (suc (suc (suc (suc (suc zero))))))) (suc (suc (suc (suc (suc (suc zero)))))) o a b c d = absurd (omega (arith, c))
high_bit (suc (suc (suc (suc (suc (suc (suc zero))))))) (suc (suc (suc (suc (suc (suc (suc zero))))))) o a b c d = ap (λ (n : ℕ). n == 1) (omega (arith, d))
high_bit (suc (suc (suc (suc (suc (suc (suc zero))))))) (suc (suc (suc (suc (suc (suc (suc (suc k)))))))) o a b c d = absurd (omega (arith, b))
high_bit (suc (suc (suc (suc (suc (suc (suc (suc u)))))))) k o a b c d = absurd (omega (arith, a))

-- an octet of the first ones, or the last one
octet_before : (u o : ℕ) (xs : List ℕ) (w i : ℕ) → i < w → w < length xs → slice_index_or (u ∷ take w (drop 1 xs) ++ o ∷ []) (1 + i) 0 ≡ slice_index_or xs (1 + i) 0
octet_before u o [] w i less few = absurd (omega (arith, few))
octet_before u o (x ∷ xs) w i less few =
    let e : 1 + i ≡ suc i = omega arith in
    let size : length (take w xs) ≡ w = length-take-le w xs (omega (arith, few)) in
    let whole : slice_index_or (take w xs ++ o ∷ []) i 0 ≡ slice_index_or xs i 0 = get_or-append (take w xs) (o ∷ []) 0 i (omega (arith, less, size)) ∙ get_or-take w xs i 0 less in
    rw e whole

octet_last : (u o : ℕ) (xs : List ℕ) (w : ℕ) → w < length xs → slice_index_or (u ∷ take w (drop 1 xs) ++ o ∷ []) (1 + w) 0 ≡ o
octet_last u o [] w few = absurd (omega (arith, few))
octet_last u o (x ∷ xs) w few =
    let e : 1 + w ≡ suc w = omega arith in
    let size : length (take w xs) ≡ w = length-take-le w xs (omega (arith, few)) in
    let seam : slice_index_or (take w xs ++ o ∷ []) (length (take w xs)) 0 ≡ o = get_or-append_seam (take w xs) o [] 0 in
    rw e (subst (λ k. slice_index_or (take w xs ++ o ∷ []) k 0 ≡ o) size seam)

-- the octets of the first bits, after the number of unused bits
unfoldable pub cut : List ℕ → ℕ → List ℕ
cut octets count =
    let w = (count - 1) / 8 in
    let o = slice_index_or octets (1 + w) 0 in
    (7 - (count - 1) % 8) ∷ take w (drop 1 octets) ++ (o - o % 2 ^ (7 - (count - 1) % 8)) ∷ []

pub first_bits : (octets : List ℕ) (count : ℕ) → 0 < count → count ≤ bit_count octets → ((i : ℕ) → slice_index_or octets i 0 < 256) → HasFirstBits count octets (cut octets count)
unfolding cut
first_bits octets count some few small = record { size = size; bits = bits }
  where
    w : ℕ
    w = (count - 1) / 8

    u : ℕ
    u = 7 - (count - 1) % 8

    o : ℕ
    o = slice_index_or octets (1 + w) 0

    last : ℕ
    last = o - o % 2 ^ u

    room : w < length octets
    room = omega (arith, some, few)

    front : length (take w (drop 1 octets)) ≡ w
    front = let l = length-drop 1 octets in length-take-le w (drop 1 octets) (omega (arith, some, few, l))

    size : bit_count (u ∷ take w (drop 1 octets) ++ last ∷ []) ≡ count
    size = let l = length-append (take w (drop 1 octets)) (last ∷ []) in omega (arith, l, front, some)

    bits : (n : ℕ) → n < count → has_bit n (u ∷ take w (drop 1 octets) ++ last ∷ []) ≡ has_bit n octets
    bits n there = ⊎_elim
        (λ less. ap (is_one (7 - n % 8)) (octet_before u last octets w (n / 8) less room))
        (λ more. let e : n / 8 ≡ w = omega (arith, there, more, some) in at e)
        (cases_lt (n / 8) w)
      where
        at : n / 8 ≡ w → has_bit n (u ∷ take w (drop 1 octets) ++ last ∷ []) ≡ has_bit n octets
        at e =
            let here : slice_index_or (u ∷ take w (drop 1 octets) ++ last ∷ []) (1 + n / 8) 0 ≡ last = ap (λ k. slice_index_or (u ∷ take w (drop 1 octets) ++ last ∷ []) (1 + k) 0) e ∙ octet_last u last octets w room in
            let was : slice_index_or octets (1 + n / 8) 0 ≡ o = ap (λ k. slice_index_or octets (1 + k) 0) e in
            ap (is_one (7 - n % 8)) here ∙ high_bit u (7 - n % 8) o (omega arith) (omega arith) (omega (arith, there, e, some)) (small (1 + w)) ∙ sym (ap (is_one (7 - n % 8)) was)
