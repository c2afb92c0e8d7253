-- The octets of a tag as one number, and the order of these numbers.
use Rattle.std.proofs.Common.{◌≡◌, ℕ, ◌+◌, ◌*◌, ◌-◌, ◌^◌, ◌/◌, ◌%◌, ◌<◌, ◌≤◌, zero, suc, List, [], ◌∷◌, ◌++◌, length, replicate, map, length-append, refl, sym, ap, ◌∙◌, subst, arith}
use Rattle.std.proofs.Math.Nat.{pow-le-pow_right, mul-le-mul_right}
use Rattle.std.proofs.lemmas.Nat.{pow-add, shl_whole}
use Rattle.std.proofs.lemmas.Grind.{pow_more}
use Rattle.std.proofs.lemmas.Int.Digits.{number_after_append, number_after_lt, number_lt, length-digits_of-le, all_below_base_digits_of}
use Rattle.std.specs.Int.Digits.{digits_of, number_from_digits, number_from_digits_after, AllBelowBase}
use Rattle.std.specs.Ordering.{nat_cmp, ordering_then}
use Rattle.std.specs.declared.cmp.Ordering.{Ordering}
use Rattle.std.specs.declared.cmp.Ordering.TheVariants.{Less, Equal, Greater}
use Rattle.der_base.specs.Order.{byte_order, AreApart}
use Rattle.der_base.specs.Tag.{label, leading_octet, tag_octets}
use Rattle.der_base.specs.declared.tag.Tag.{Tag}
use Rattle.der_base.proofs.OrderLemmas.{order_parts, digits_order, same_octets, equal_octets}
use Rattle.der_base.proofs.TagLemmas.{tag_front, tag_begins}
use Rattle.der_core.specs.DerOrd.{six_octets}
use Rattle.der_core.specs.Encode.{high_digits}
use Rattle.der_core.proofs.EncodeLemmas.{high_push, length_high_digits, tag_spelled}

length_zeros : (k : ℕ) → length {A = ℕ} (replicate k 0) ≡ k
length_zeros zero = refl
length_zeros (suc k) = ap suc (length_zeros k)

power_more : (b k : ℕ) → b ^ suc k ≡ b ^ k * b
power_more b k = let e : suc k ≡ k + 1 = omega arith in ap (λ (x : ℕ). b ^ x) e ∙ pow_more b k

moved : (n p : ℕ) → (n * 256 + 0) * p ≡ n * (p * 256)
moved n p = grind (arith)

-- zeros after a number multiply it
number_zeros : (n k : ℕ) → number_from_digits_after 256 n (replicate k 0) ≡ n * 256 ^ k
number_zeros n zero = omega arith
number_zeros n (suc k) = number_zeros (n * 256 + 0) k ∙ moved n (256 ^ k) ∙ ap (λ (x : ℕ). n * x) (sym (power_more 256 k))

-- an octet has eight bits
power_bits : (k : ℕ) → 2 ^ (8 * k) ≡ 256 ^ k
power_bits zero = refl
power_bits (suc k) =
    ap (λ (x : ℕ). 2 ^ x) (omega arith) ∙ pow-add 2 (8 * k) 8 ∙ ap (λ (x : ℕ). x * 256) (power_bits k) ∙ sym (power_more 256 k)

below_filled : (s : List ℕ) (k : ℕ) → AllBelowBase 256 s → AllBelowBase 256 (s ++ replicate k 0)
below_filled [] zero h = tt
below_filled [] (suc k) h = (omega arith, below_filled [] k tt)
below_filled (o ∷ s) k h = (h.0, below_filled s k h.1)

length_filled : (s : List ℕ) → length s ≤ 6 → length (six_octets s) ≡ 6
length_filled s h = length-append s (replicate (6 - length s) 0) ∙ ap (λ (n : ℕ). length s + n) (length_zeros (6 - length s)) ∙ omega arith

-- a shift to the left pads to six octets with zeros
pub number_filled : (s : List ℕ) → AllBelowBase 256 s → length s ≤ 6
    → (number_from_digits 256 s * 2 ^ (8 * (6 - length s))) % 2 ^ 64 ≡ number_from_digits 256 (six_octets s)
number_filled s h few =
    shl_whole (number_from_digits 256 s) (8 * length s) (8 * (6 - length s)) 64 (subst (λ (x : ℕ). number_from_digits 256 s < x) (sym (power_bits (length s))) (number_lt 256 s h)) (omega arith)
    ∙ ap (λ (x : ℕ). number_from_digits 256 s * x) (power_bits (6 - length s))
    ∙ sym (number_after_append 256 0 s (replicate (6 - length s) 0) ∙ number_zeros (number_from_digits 256 s) (6 - length s))

decided_before : (o p : Ordering) → (o ≡ Equal → p ≡ Equal) → ordering_then o p ≡ o
decided_before Less p h = refl
decided_before Equal p h = h refl
decided_before Greater p h = refl

-- padded to six octets, lists compare as they do unpadded, if they are apart
six_order : (a b : List ℕ) → AllBelowBase 256 a → AllBelowBase 256 b → length a ≤ 6 → length b ≤ 6 → AreApart a b
    → nat_cmp (number_from_digits 256 (six_octets a)) (number_from_digits 256 (six_octets b)) ≡ byte_order a b
six_order a b h k few less apart =
    sym (digits_order 256 (six_octets a) (six_octets b) (length_filled a few ∙ sym (length_filled b less)) (below_filled a (6 - length a) h) (below_filled b (6 - length b) k))
    ∙ order_parts a b (replicate (6 - length a) 0) (replicate (6 - length b) 0) apart
    ∙ decided_before (byte_order a b) (byte_order (replicate (6 - length a) 0) (replicate (6 - length b) 0))
    (λ e. equal_octets (replicate (6 - length a) 0) (replicate (6 - length b) 0) (ap (λ l. replicate (6 - length l) 0) (same_octets a b e)))

pub tag_below : (t : Tag) → AllBelowBase 256 (tag_octets t)
tag_below t = let b = tag_begins t in b.4

pub tag_order : (t u : Tag) → length (tag_octets t) ≤ 6 → length (tag_octets u) ≤ 6
    → nat_cmp (number_from_digits 256 (six_octets (tag_octets t))) (number_from_digits 256 (six_octets (tag_octets u))) ≡ byte_order (tag_octets t) (tag_octets u)
tag_order t u few less = six_order (tag_octets t) (tag_octets u) (tag_below t) (tag_below u) few less (λ x y e. ap tag_octets (tag_front t u x y e).0)

below_high : (ds : List ℕ) → AllBelowBase 128 ds → AllBelowBase 256 (map (λ d. 128 + d) ds)
below_high [] h = tt
below_high (d ∷ ds) h = (omega (arith, h.0), below_high ds h.1)

-- an octet, at most four digits after it, and one more octet fit into 64 bits
pub high_number_fits : (o n : ℕ) → o < 256 → n < 2 ^ 28 → number_from_digits_after 256 o (high_digits n) * 256 + 255 < 2 ^ 64
high_number_fits o n small few =
    let h : number_from_digits_after 256 o (high_digits n) < (o + 1) * 256 ^ length (high_digits n) = number_after_lt 256 o (high_digits n) (below_high (digits_of 128 n) (all_below_base_digits_of 128 n (omega arith))) in
    let count : length (high_digits n) ≤ 4 = omega (arith, length_high_digits n, length-digits_of-le 128 4 n (omega arith) (omega (arith, few))) in
    let power : 256 ^ length (high_digits n) ≤ 256 ^ 4 = pow-le-pow_right {n = 256} (omega arith) {i = length (high_digits n)} {j = 4} count in
    let front : (o + 1) * 256 ^ length (high_digits n) ≤ 256 * 256 ^ length (high_digits n) = mul-le-mul_right (256 ^ length (high_digits n)) (let l : o + 1 ≤ 256 = omega (arith, small) in l) in
    omega (arith, h, power, front)

-- one more digit after a number
pub high_number_more : (o n : ℕ) → 0 < n → number_from_digits_after 256 o (high_digits n) ≡ number_from_digits_after 256 o (high_digits (n / 128)) * 256 + (128 + n % 128)
high_number_more o n h =
    ap (number_from_digits_after 256 o) (high_push n h) ∙ number_after_append 256 o (high_digits (n / 128)) ((128 + n % 128) ∷ [])

-- the octets of a tag with a long number, as one number
pub long_number : (t : Tag) (x n : ℕ) → x ≡ leading_octet (label t) 31 → n ≡ (label t).number → 31 ≤ n
    → number_from_digits 256 (tag_octets t) ≡ number_from_digits_after 256 x (high_digits (n / 128)) * 256 + n % 128
long_number t x n e f large =
    ap (number_from_digits 256) (tag_spelled t x n e f large)
    ∙ ap (λ (y : ℕ). number_from_digits_after 256 y (high_digits (n / 128) ++ n % 128 ∷ [])) (omega arith)
    ∙ number_after_append 256 x (high_digits (n / 128)) (n % 128 ∷ [])
