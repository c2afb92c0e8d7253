-- GeneralizedTime (X.680 46; X.690 11.7): a word for each rule.
use Rattle.std.specs.Prelude.{ℕ, ◌+◌, ◌*◌, ◌-◌, ◌==◌, ◌&&◌, ◌||◌, not, Bool, nat_lt, List, drop}
use Rattle.std.specs.Prelude.{if◌then◌else◌, slice_index_or}
use Rattle.schema_rules.specs.Decimal.{begins_with_mark, after_fraction}
use Rattle.schema_rules.specs.Digits.{digit_count, after_digits}
use Rattle.schema_rules.specs.Small.{has_octets}
use Rattle.der_asn1.specs.Times.{two_at}
use Rattle.schema_rules.specs.Zone.{is_z, is_offset, exists_offset, exists_date, exists_time}

-- what comes after the digits of date and time: a fraction or not, and the zone
abbrev pub has_fraction : List ℕ → Bool
has_fraction octets = begins_with_mark (after_digits octets)

abbrev pub fraction_digits : List ℕ → ℕ
fraction_digits octets = digit_count (drop 1 (after_digits octets))

abbrev pub zone_of : List ℕ → List ℕ
zone_of octets =
    if has_fraction octets then after_fraction (after_digits octets) else after_digits octets

abbrev pub zone_form : List ℕ → Bool
zone_form zone = not (has_octets zone) || (is_z zone || (is_offset 2 zone || is_offset 4 zone))

-- YYYYMMDDhh, YYYYMMDDhhmm or YYYYMMDDhhmmss; a full stop or a comma and digits, or not; and Z, a
-- difference of two or four digits, or nothing (X.680 46)
abbrev pub generalized_time_form : List ℕ → Bool
generalized_time_form octets =
    ((digit_count octets == 10) || ((digit_count octets == 12) || (digit_count octets == 14)))
    && ((not (has_fraction octets) || nat_lt 0 (fraction_digits octets))
    && zone_form (zone_of octets))

-- the date, the time and the difference exist
abbrev pub generalized_time_exists : List ℕ → Bool
generalized_time_exists octets =
    exists_date (two_at 0 octets * 100 + two_at 2 octets) (two_at 4 octets) (two_at 6 octets)
    && (exists_time (digit_count octets - 8) 8 octets && exists_offset (zone_of octets))

-- Z (11.7.1)
abbrev pub generalized_time_ends_in_z : List ℕ → Bool
generalized_time_ends_in_z octets = is_z (zone_of octets)

-- the seconds are there (11.7.2)
abbrev pub generalized_time_has_seconds : List ℕ → Bool
generalized_time_has_seconds octets = digit_count octets == 14

-- the last digit of a fraction is not 0 (11.7.3)
abbrev pub has_short_fraction : List ℕ → Bool
has_short_fraction octets =
    not (has_fraction octets)
    || not (slice_index_or (after_digits octets) (fraction_digits octets) 0 == 48)

-- the mark of a fraction is a full stop (11.7.4)
abbrev pub has_full_stop : List ℕ → Bool
has_full_stop octets =
    not (has_fraction octets) || (slice_index_or (after_digits octets) 0 0 == 46)
