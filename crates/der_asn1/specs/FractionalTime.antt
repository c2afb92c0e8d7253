-- A GeneralizedTime that may have a fraction of a second (X.690 11.7): YYYYMMDDHHMMSS, then Z, or a
-- full stop, digits of which the last is not 0, and Z.
use Rattle.std.specs.Prelude.{ℕ, ◌+◌, ◌-◌, ◌*◌, ◌==◌, ◌&&◌, not, Bool, true, false, nat_lt}
use Rattle.std.specs.Prelude.{List, [], ◌∷◌, ◌++◌, drop, take, if◌then◌else◌, slice_index_or}
use Rattle.der_asn1.specs.declared.times.date_time.DateTime.{DateTime}
use Rattle.der_asn1.specs.Times.{generalized_form, generalized_reading}

-- the contents without the fraction: fourteen digits and Z
abbrev pub whole_seconds : List ℕ → List ℕ
whole_seconds octets = take 14 octets ++ 90 ∷ []

abbrev pub is_digit : ℕ → Bool
is_digit o = nat_lt 47 o && nat_lt o 58

abbrev pub is_nothing : List ℕ → Bool
is_nothing [] = true
is_nothing (o ∷ os) = false

-- digits and Z; `may_end` says whether Z may come next, which it may after a digit other than 0
-- (11.7.3)
abbrev pub ends_fraction : Bool → List ℕ → Bool
ends_fraction may_end [] = false
ends_fraction may_end (o ∷ os) =
    if o == 90 then may_end && is_nothing os
    else (if is_digit o then ends_fraction (not (o == 48)) os else false)

-- what follows the seconds: Z (11.7.1), or a full stop (11.7.4), digits and Z
abbrev pub ends_seconds : List ℕ → Bool
ends_seconds [] = false
ends_seconds (o ∷ os) = if o == 46 then ends_fraction false os else ((o == 90) && is_nothing os)

abbrev pub fractional_form : List ℕ → Bool
fractional_form octets =
    generalized_form (whole_seconds octets) && ends_seconds (drop 14 octets)

-- the date and time, without the fraction
abbrev pub fractional_reading : List ℕ → DateTime
fractional_reading octets = generalized_reading (whole_seconds octets)

-- the digit at a place, or 0 if there is none
abbrev pub digit_at : ℕ → List ℕ → ℕ
digit_at i octets =
    if is_digit (slice_index_or octets i 0) then slice_index_or octets i 0 - 48 else 0

-- the nanoseconds of the fraction, whose digits begin after the full stop; further digits are left
-- out
abbrev pub nanoseconds_of : List ℕ → ℕ
nanoseconds_of octets =
    100000000 * digit_at 15 octets + 10000000 * digit_at 16 octets + 1000000 * digit_at 17 octets
    + 100000 * digit_at 18 octets + 10000 * digit_at 19 octets + 1000 * digit_at 20 octets
    + 100 * digit_at 21 octets + 10 * digit_at 22 octets + digit_at 23 octets
