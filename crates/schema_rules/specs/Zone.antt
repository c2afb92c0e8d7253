-- The ends of times (X.680 46, 47): the letter Z, or the difference from UTC.
use Rattle.std.specs.Prelude.{ℕ, ◌+◌, ◌==◌, ◌&&◌, ◌||◌, not, Bool, false, nat_lt, nat_le}
use Rattle.std.specs.Prelude.{List, [], ◌∷◌, length}
use Rattle.schema_rules.specs.Digits.{are_digits}
use Rattle.schema_rules.specs.Small.{has_octets}
use Rattle.der_asn1.specs.Times.{two_at, days_of}

abbrev pub is_z : List ℕ → Bool
is_z [] = false
is_z (o ∷ os) = (o == 90) && not (has_octets os)

-- a sign and n digits
abbrev pub is_offset : ℕ → List ℕ → Bool
is_offset n [] = false
is_offset n (o ∷ os) = ((o == 43) || (o == 45)) && are_digits n os

-- the hours and minutes of a difference exist
abbrev pub exists_offset : List ℕ → Bool
exists_offset zone =
    nat_lt (length zone) 3
    || nat_lt (two_at 1 zone) 24 && (nat_lt (length zone) 5 || nat_lt (two_at 3 zone) 60)

-- the date exists in the Gregorian calendar
abbrev pub exists_date : ℕ → ℕ → ℕ → Bool
exists_date year month day =
    nat_lt 0 month && (nat_lt month 13 && (nat_lt 0 day && nat_le day (days_of year month)))

-- hours, minutes and seconds exist, of which some may be absent, in n digits from a place on
abbrev pub exists_time : ℕ → ℕ → List ℕ → Bool
exists_time n at octets =
    nat_lt (two_at at octets) 24
    && ((nat_lt n 4 || nat_lt (two_at (at + 2) octets) 60)
    && (nat_lt n 6 || nat_lt (two_at (at + 4) octets) 60))
