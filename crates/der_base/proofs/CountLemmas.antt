-- The numbers of octets of tags and lengths.
use Rattle.std.proofs.Common.{◌≡◌, ℕ, suc, ◌+◌, ◌^◌, ◌<◌, ◌≤◌, List, [], ◌∷◌, length, refl, ap, subst, arith}
use Rattle.std.specs.Int.Digits.{digits_of}
use Rattle.std.proofs.lemmas.Int.Digits.{number_lt, number_digits_of, length-digits_of-le, all_below_base_digits_of}
use Rattle.std.proofs.Math.Nat.{pow-le-pow_right}
use Rattle.std.proofs.lemmas.Bool.Decides.{nat_tests}
use Rattle.der_base.specs.Length.{length_octets, digits}
use Rattle.der_base.specs.Tag.{label, tag_octets, continuation_octets}
use Rattle.der_base.specs.declared.tag.Tag.{Tag}

-- a number of at least the k-th power of the base has more than k digits
digits_of-long : (b k n : ℕ) → 2 ≤ b → b ^ k ≤ n → k < length (digits_of b n)
digits_of-long b k n base least =
    let below : n < b ^ length (digits_of b n) = subst (λ (m : ℕ). m < b ^ length (digits_of b n)) (number_digits_of b n base) (number_lt b (digits_of b n) (all_below_base_digits_of b n base)) in
    let few : length (digits_of b n) ≤ k → b ^ length (digits_of b n) ≤ b ^ k = λ (h : length (digits_of b n) ≤ k). pow-le-pow_right {n = b} (omega arith) h in
    grind (arith, few)

length-digits_of-is : (b k n : ℕ) → 2 ≤ b → b ^ k ≤ n → n < b ^ (k + 1) → length (digits_of b n) ≡ k + 1
length-digits_of-is b k n base least most = omega (arith, digits_of-long b k n base least, length-digits_of-le b (k + 1) n base most)

-- the digits of a number that is not 0
digits-is : (b n : ℕ) → 0 < n → digits b n ≡ digits_of b n
digits-is b n h = grind (arith, nat_tests)

length-continued : (ds : List ℕ) → length (continuation_octets ds) ≡ length ds
length-continued [] = refl
length-continued (d ∷ []) = refl
length-continued (d ∷ e ∷ ds) = ap (λ (n : ℕ). suc n) (length-continued (e ∷ ds))

-- the length octets of a length from 128 on with k + 1 digits in base 256
pub length-length_octets : (k n : ℕ) → 128 ≤ n → 256 ^ k ≤ n → n < 256 ^ (k + 1) → length (length_octets n) ≡ k + 2
length-length_octets k n long least most =
    let e : digits 256 n ≡ digits_of 256 n = digits-is 256 n (omega arith) in
    let d : length (digits_of 256 n) ≡ k + 1 = length-digits_of-is 256 k n (omega arith) least most in
    grind (arith, nat_tests)

-- the octets of a tag with a number from 31 on that has k + 1 digits in base 128
pub length-tag_octets : (k : ℕ) (t : Tag) → 31 ≤ (label t).number → 128 ^ k ≤ (label t).number → (label t).number < 128 ^ (k + 1) → length (tag_octets t) ≡ k + 2
length-tag_octets k t long least most =
    let n : ℕ = (label t).number in
    let e : digits 128 n ≡ digits_of 128 n = digits-is 128 n (omega arith) in
    let d : length (digits_of 128 n) ≡ k + 1 = length-digits_of-is 128 k n (omega arith) least most in
    let f : length (continuation_octets (digits 128 n)) ≡ length (digits 128 n) = length-continued (digits 128 n) in
    grind (arith, nat_tests)
