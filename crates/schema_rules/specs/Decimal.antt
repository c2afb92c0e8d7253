-- REAL in decimal digits (X.690 8.5.8, 11.3.2; ISO 6093), after the first octet.
use Rattle.std.specs.Prelude.{ℕ, ◌+◌, ◌-◌, ◌==◌, ◌&&◌, ◌||◌, not, Bool, true, false, nat_lt}
use Rattle.std.specs.Prelude.{List, [], ◌∷◌, drop, length, if◌then◌else◌, slice_index_or}
use Rattle.schema_rules.specs.Digits.{digit_count, after_digits, are_digits}
use Rattle.schema_rules.specs.Small.{has_octets}

-- without the spaces at the front
abbrev pub after_spaces : List ℕ → List ℕ
after_spaces [] = []
after_spaces (o ∷ os) = if o == 32 then after_spaces os else o ∷ os

-- without one sign at the front
abbrev pub after_sign : List ℕ → List ℕ
after_sign [] = []
after_sign (o ∷ os) = if (o == 43) || (o == 45) then os else o ∷ os

-- one digit or more, and nothing else
abbrev pub is_number : List ℕ → Bool
is_number octets = has_octets octets && are_digits (length octets) octets

-- what comes after a full stop or a comma, and after the digits after it
abbrev pub after_fraction : List ℕ → List ℕ
after_fraction octets = after_digits (drop 1 octets)

abbrev pub begins_with_mark : List ℕ → Bool
begins_with_mark [] = false
begins_with_mark (o ∷ os) = (o == 44) || (o == 46)

-- digits with a decimal mark before, between or after them
abbrev pub begins_with_fraction : List ℕ → Bool
begins_with_fraction octets =
    begins_with_mark (after_digits octets)
    && nat_lt 0 (digit_count octets + digit_count (drop 1 (after_digits octets)))

-- E, and a number that may have a sign
abbrev pub is_exponent : List ℕ → Bool
is_exponent [] = false
is_exponent (o ∷ os) = ((o == 69) || (o == 101)) && is_number (after_sign os)

-- an unsigned number of the form NR1, NR2 or NR3
abbrev pub is_unsigned : ℕ → List ℕ → Bool
is_unsigned form octets =
    if form == 1 then is_number octets
    else begins_with_fraction octets
    && (if form == 2 then not (has_octets (after_fraction (after_digits octets)))
    else (form == 3) && is_exponent (after_fraction (after_digits octets)))

-- a number of the form NR1, NR2 or NR3, after spaces (8.5.8)
abbrev pub decimal_form : ℕ → List ℕ → Bool
decimal_form form octets = is_unsigned form (after_sign (after_spaces octets))

-- a digit other than 0 before the exponent
abbrev pub is_nonzero_decimal : List ℕ → Bool
is_nonzero_decimal [] = false
is_nonzero_decimal (o ∷ os) =
    if (o == 69) || (o == 101) then false
    else if nat_lt 48 o && nat_lt o 58 then true else is_nonzero_decimal os

-- without a minus sign at the front
abbrev pub after_minus : List ℕ → List ℕ
after_minus [] = []
after_minus (o ∷ os) = if o == 45 then os else o ∷ os

-- `+0`, or a number that does not begin with 0 and may have a minus sign (11.3.2.6)
abbrev pub is_shortest_exponent : List ℕ → Bool
is_shortest_exponent [] = false
is_shortest_exponent (o ∷ os) =
    if o == 43 then (length os == 1) && (slice_index_or os 0 0 == 48)
    else is_number (after_minus (o ∷ os)) && not (slice_index_or (after_minus (o ∷ os)) 0 0 == 48)

-- `.E`, and the exponent (11.3.2.5)
abbrev pub is_der_exponent : List ℕ → Bool
is_der_exponent octets =
    (slice_index_or octets 0 0 == 46) && ((slice_index_or octets 1 0 == 69)
    && is_shortest_exponent (drop 2 octets))

-- digits of which neither the first nor the last is 0, and the exponent (11.3.2.4)
abbrev pub is_der_unsigned : List ℕ → Bool
is_der_unsigned octets =
    nat_lt 0 (digit_count octets) && (not (slice_index_or octets 0 0 == 48)
    && (not (slice_index_or octets (digit_count octets - 1) 0 == 48)
    && is_der_exponent (after_digits octets)))

-- the same, after a minus sign if the number is negative; there are no spaces (11.3.2.2, 11.3.2.3)
abbrev pub der_decimal_form : List ℕ → Bool
der_decimal_form octets = is_der_unsigned (after_minus octets)
