-- Times of fourteen or twelve digits and Z: the words of `der_asn1` and those of this crate.
use Rattle.std.proofs.Common.{◌≡◌, ℕ, zero, suc, true, false, ◌+◌, ◌*◌, ◌/◌, ◌%◌, ◌<◌, ◌≤◌, ◌==◌, List, [], ◌∷◌, ◌++◌, length, drop, refl, sym, ap, ◌∙◌, nat_lt, slice_index_or, ⊎_elim, arith}
use Rattle.std.proofs.Math.Seq.{drop-cons}
use Rattle.std.proofs.lemmas.Bool.{cases_Bool, and_parts, ltb-true, lt-ltb, eq-eqb, eqb-true}
use Rattle.std.specs.Str.{bytes_eq}
use Rattle.schema_rules.specs.Digits.{is_digit, digit_count}
use Rattle.der_asn1.specs.Times.{two_at, two_digits}
use Rattle.schema_rules.specs.Zone.{is_z}

-- an octet before the first one that is no digit is a digit
pub digit_at : (os : List ℕ) (i : ℕ) → i < digit_count os → is_digit (slice_index_or os i 0) ≡ true
digit_at [] i h = absurd (omega arith)
digit_at (o ∷ os) zero h = ⊎_elim (λ e. e) (λ e. let k : 0 < 0 = rw e at h in absurd (omega (arith, k))) (cases_Bool (is_digit o))
digit_at (o ∷ os) (suc i) h = ⊎_elim
    (λ e. let k : suc i < 1 + digit_count os = rw e at h in digit_at os i (omega (arith, k)))
    (λ e. let k : suc i < 0 = rw e at h in absurd (omega (arith, k)))
    (cases_Bool (is_digit o))

-- digits are bounds
pub digit_bounds : (o : ℕ) → is_digit o ≡ true → (48 ≤ o) × (o ≤ 57)
digit_bounds o h = let p = and_parts (nat_lt 47 o) (nat_lt o 58) h in (omega (arith, ltb-true 47 o p.0), omega (arith, ltb-true o 58 p.1))

pub is_digit_of : (o : ℕ) → 48 ≤ o → o ≤ 57 → is_digit o ≡ true
is_digit_of o a b = rw (lt-ltb 47 o (omega (arith, a)), lt-ltb o 58 (omega (arith, b))) refl

-- two digits are those of their number
pub first_back : (p q : ℕ) → 48 ≤ p → p ≤ 57 → 48 ≤ q → q ≤ 57 → 48 + (p % 16 * 10 + q % 16) / 10 ≡ p
first_back p q a b c d = omega (arith, a, b, c, d)

pub second_back : (p q : ℕ) → 48 ≤ p → p ≤ 57 → 48 ≤ q → q ≤ 57 → 48 + (p % 16 * 10 + q % 16) % 10 ≡ q
second_back p q a b c d = omega (arith, a, b, c, d)

pub two_below : (p q : ℕ) → 48 ≤ p → p ≤ 57 → 48 ≤ q → q ≤ 57 → p % 16 * 10 + q % 16 < 100
two_below p q a b c d = omega (arith, a, b, c, d)

-- the number of digits is no more than that of octets
pub count_within : (os : List ℕ) → digit_count os ≤ length os
count_within [] = omega arith
count_within (o ∷ os) = ⊎_elim (λ e. rw e (omega (arith, count_within os))) (λ e. rw e (omega arith)) (cases_Bool (is_digit o))

-- the octets from a pair of digits on are the digits of its number, and what comes after them
pub chunk : (os rest : List ℕ) (i : ℕ) → i + 1 < digit_count os → drop (i + 2) os ≡ rest → two_digits (two_at i os) ++ rest ≡ drop i os
chunk os rest i h e =
    let p = slice_index_or os i 0 in
    let q = slice_index_or os (i + 1) 0 in
    let a = digit_bounds p (digit_at os i (omega (arith, h))) in
    let b = digit_bounds q (digit_at os (i + 1) h) in
    let n = count_within os in
    let first : drop i os ≡ p ∷ drop (suc i) os = drop-cons os i 0 (omega (arith, h, n)) in
    let second : drop (i + 1) os ≡ q ∷ drop (suc (i + 1)) os = drop-cons os (i + 1) 0 (omega (arith, h, n)) in
    let one : suc i ≡ i + 1 = omega arith in
    let two : suc (i + 1) ≡ i + 2 = omega arith in
    let all : drop i os ≡ p ∷ q ∷ rest = first ∙ ap (λ k. p ∷ drop k os) one ∙ ap (λ l. p ∷ l) (second ∙ ap (λ k. q ∷ drop k os) two ∙ ap (λ l. q ∷ l) e) in
    ap (λ k. k ∷ (48 + (p % 16 * 10 + q % 16) % 10) ∷ rest) (first_back p q a.0 a.1 b.0 b.1)
    ∙ ap (λ k. p ∷ k ∷ rest) (second_back p q a.0 a.1 b.0 b.1) ∙ sym all

-- two more digits
pub count_chunk : (n : ℕ) (rest : List ℕ) → n < 100 → digit_count (two_digits n ++ rest) ≡ 2 + digit_count rest
count_chunk n rest h = rw (is_digit_of (48 + n / 10) (omega arith) (omega (arith, h)), is_digit_of (48 + n % 10) (omega arith) (omega (arith, h))) (omega arith)

pub z_is : (os : List ℕ) → is_z os ≡ true → os ≡ 90 ∷ []
z_is [] h = absurd (let e : false ≡ true = h in cc)
z_is (o ∷ []) h = let e = and_parts (o == 90) true h in ap (λ k. k ∷ []) (eqb-true o 90 e.0)
z_is (o ∷ p ∷ os) h = let e : false ≡ true = (and_parts (o == 90) false h).1 in absurd (cc)

pub same_octets : (os : List ℕ) → bytes_eq os os ≡ true
same_octets [] = refl
same_octets (o ∷ os) = rw (eq-eqb o o refl) (same_octets os)
