-- Numbers in the bounds of a range.
use Rattle.std.proofs.lemmas.Int.{ints}
use Rattle.std.proofs.Common.{◌≡◌, ◌↔◌, ◌<◌, ◌^◌, FitsSigned, w64, arith, Bool, true, false, IsTrue, ℕ, ℤ, pos, negsuc, List, map, subst, ap, ◌∙◌, if◌then◌else◌}
use Rattle.std.specs.Int.Digits.{number_from_digits}
use Rattle.der_asn1.specs.Integer.{is_negative, turned}
use Rattle.schema_rules.specs.Values.{integer_value, IsInRange}

-- the value of contents, by their sign and magnitude
value_by_parts : (negative : Bool) (octets : List ℕ) (n : ℕ) → negative ≡ is_negative octets → n ≡ number_from_digits 256 (map (turned negative) octets)
    → (if negative then negsuc n else pos n) ≡ integer_value octets
value_by_parts negative octets n e m =
    ap (λ k. if negative then negsuc k else pos k) m
    ∙ ap (λ b. if b then negsuc (number_from_digits 256 (map (turned b) octets)) else pos (number_from_digits 256 (map (turned b) octets))) e

-- a test of this number and these bounds is one of the value
pub tests_value : (result negative : Bool) (octets : List ℕ) (n : ℕ) (l h low high z : ℤ) → negative ≡ is_negative octets → n ≡ number_from_digits 256 (map (turned negative) octets)
    → z ≡ (if negative then negsuc n else pos n) → l ≡ low → h ≡ high
    → IsTrue result ↔ IsInRange l h z → IsTrue result ↔ IsInRange low high (integer_value octets)
tests_value result negative octets n l h low high z e m v a b t =
    subst (λ k. IsTrue result ↔ IsInRange k high (integer_value octets)) a
    (subst (λ k. IsTrue result ↔ IsInRange l k (integer_value octets)) b
    (subst (λ k. IsTrue result ↔ IsInRange l h k) (v ∙ value_by_parts negative octets n e m) t))

pub fits_signed : (negative : Bool) (n : ℕ) → n < 2 ^ 63 → FitsSigned w64 (if negative then negsuc n else pos n)
fits_signed true n h = omega (arith, ints, h)
fits_signed false n h = omega (arith, ints, h)
