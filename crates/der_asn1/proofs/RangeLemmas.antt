-- Lemmas on INTEGER contents of numbers with bounds.
use Rattle.std.proofs.Common.{◌≡◌, ℕ, ◌^◌, nat_le, List, true, false, ap, sym, subst, ◌∙◌}
use Rattle.std.proofs.lemmas.Bool.{and_from, and_parts, le-leb, leb-true}
use Rattle.der_asn1.specs.Integer.{integer_octets, magnitude, unsigned_form}
use Rattle.der_asn1.specs.Ranges.{IsWithin, is_within, range_form}
use Rattle.der_asn1.proofs.IntegerReadLemmas.{made_number}

number_of : (n : ℕ) (octets : List ℕ) → integer_octets false n ≡ octets → n ≡ magnitude octets
number_of n octets same = sym (made_number false n) ∙ ap magnitude same

-- the contents of a number within the bounds are valid
pub range_form_from : (low high n : ℕ) (octets : List ℕ) → unsigned_form (2 ^ 64) octets ≡ true → integer_octets false n ≡ octets → IsWithin low high n → range_form low high octets ≡ true
range_form_from low high n octets grammar same within =
    and_from (unsigned_form (2 ^ 64) octets) (is_within low high (magnitude octets)) grammar
    (subst (λ k. is_within low high k ≡ true) (number_of n octets same)
    (and_from (nat_le low n) (nat_le n high) (le-leb low n within.0) (le-leb n high within.1)))

-- valid contents are those of a number within the bounds
pub range_form-within : (low high n : ℕ) (octets : List ℕ) → integer_octets false n ≡ octets → range_form low high octets ≡ true → IsWithin low high n
range_form-within low high n octets same form =
    let within : is_within low high n ≡ true =
    subst (λ k. is_within low high k ≡ true) (sym (number_of n octets same))
    (and_parts (unsigned_form (2 ^ 64) octets) (is_within low high (magnitude octets)) form).1 in
    let parts = and_parts (nat_le low n) (nat_le n high) within in
    (leb-true low n parts.0, leb-true n high parts.1)
