-- REAL (X.690 8.5, 11.3): a word for each rule. Each holds of contents to which its rule does not
-- apply.
use Rattle.std.specs.Prelude.{ℕ, ◌+◌, ◌/◌, ◌%◌, ◌==◌, ◌&&◌, ◌||◌, not, Bool, true, false, nat_lt}
use Rattle.std.specs.Prelude.{nat_le, List, [], ◌∷◌, drop, take, length, if◌then◌else◌}
use Rattle.std.specs.Prelude.{slice_index_or}
use Rattle.schema_rules.specs.Decimal.{decimal_form, der_decimal_form, is_nonzero_decimal}
use Rattle.der_asn1.specs.Forms.{integer_form}
use Rattle.schema_rules.specs.Small.{has_octets}

-- the first octet announces the binary form, a special value, or the decimal form (8.5.6)
abbrev pub is_binary : ℕ → Bool
is_binary first = nat_lt 127 first

abbrev pub is_special : ℕ → Bool
is_special first = nat_lt 63 first && nat_lt first 128

-- a special value is one octet: plus infinity, minus infinity, not a number, or minus zero (8.5.9)
abbrev pub special_form : List ℕ → Bool
special_form [] = true
special_form (first ∷ os) = not (is_special first) || nat_lt first 68 && not (has_octets os)

-- bits 6 and 5 of the first octet are the base: 2, 8, 16 or reserved (8.5.7.2)
abbrev pub base_form : List ℕ → Bool
base_form [] = true
base_form (first ∷ os) = not (is_binary first) || not (first / 16 % 4 == 3)

-- the exponent has one, two or three octets, or as many as the octet before it says (8.5.7.4)
abbrev pub is_counted : ℕ → Bool
is_counted first = first % 4 == 3

-- the number of octets of the exponent, and those after the first octet and this number
abbrev pub exponent_size : ℕ → List ℕ → ℕ
exponent_size first os = if is_counted first then slice_index_or os 0 0 else first % 4 + 1

abbrev pub after_count : ℕ → List ℕ → List ℕ
after_count first os = if is_counted first then drop 1 os else os

abbrev pub exponent_of : ℕ → List ℕ → List ℕ
exponent_of first os = take (exponent_size first os) (after_count first os)

abbrev pub mantissa_of : ℕ → List ℕ → List ℕ
mantissa_of first os = drop (exponent_size first os) (after_count first os)

-- all octets of the exponent are there; if they are counted, there is one at least, and the first
-- nine bits are not all equal (8.5.7.4)
abbrev pub has_exponent : ℕ → List ℕ → Bool
has_exponent first os =
    nat_lt 0 (exponent_size first os)
    && (nat_le (exponent_size first os) (length (after_count first os))
    && (not (is_counted first) || integer_form (exponent_of first os)))

abbrev pub exponent_form : List ℕ → Bool
exponent_form [] = true
exponent_form (first ∷ os) = not (is_binary first) || has_exponent first os

-- the field is a number of the form that bits 6 to 1 of the first octet say (8.5.8)
abbrev pub decimal_field_form : List ℕ → Bool
decimal_field_form [] = true
decimal_field_form (first ∷ os) = nat_lt 63 first || decimal_form first os

-- an octet other than zero
abbrev pub is_nonzero : List ℕ → Bool
is_nonzero [] = false
is_nonzero (o ∷ os) = if o == 0 then is_nonzero os else true

-- zero has no octets, and minus zero is a special value (8.5.2, 8.5.3)
abbrev pub nonzero_form : List ℕ → Bool
nonzero_form [] = true
nonzero_form (first ∷ os) =
    is_special first
    || (if is_binary first then is_nonzero (mantissa_of first os) else is_nonzero_decimal os)

-- base 2, and the scaling factor zero (11.3.1)
abbrev pub base_two_form : List ℕ → Bool
base_two_form [] = true
base_two_form (first ∷ os) = not (is_binary first) || (first / 4 % 16 == 0)

-- the exponent has the fewest octets, and its octets are counted only if there are more than three
-- (11.3.1)
abbrev pub short_exponent_form : List ℕ → Bool
short_exponent_form [] = true
short_exponent_form (first ∷ os) =
    not (is_binary first)
    || integer_form (exponent_of first os)
    && (not (is_counted first) || nat_lt 3 (exponent_size first os))

-- the first octet is not zero, and the last one is odd
abbrev pub is_odd : List ℕ → Bool
is_odd [] = false
is_odd (o ∷ []) = o % 2 == 1
is_odd (o ∷ p ∷ os) = is_odd (p ∷ os)

abbrev pub is_shortest_odd : List ℕ → Bool
is_shortest_odd octets = not (slice_index_or octets 0 0 == 0) && is_odd octets

-- the mantissa is odd, and has the fewest octets (11.3.1)
abbrev pub odd_form : List ℕ → Bool
odd_form [] = true
odd_form (first ∷ os) = not (is_binary first) || is_shortest_odd (mantissa_of first os)

-- the form NR3 (11.3.2.1)
abbrev pub nr3_form : List ℕ → Bool
nr3_form [] = true
nr3_form (first ∷ os) = nat_lt 63 first || (first == 3)

-- the shortest spelling (11.3.2.2 to 11.3.2.6)
abbrev pub short_decimal_form : List ℕ → Bool
short_decimal_form [] = true
short_decimal_form (first ∷ os) = nat_lt 63 first || der_decimal_form os
