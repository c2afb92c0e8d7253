-- UTCTime (X.680 47; X.690 11.8): a word for each rule.
use Rattle.std.specs.Prelude.{ℕ, ◌-◌, ◌==◌, ◌&&◌, ◌||◌, Bool, List}
use Rattle.schema_rules.specs.Digits.{digit_count, after_digits}
use Rattle.schema_rules.specs.Zone.{is_z, is_offset, exists_offset, exists_date, exists_time}
use Rattle.der_asn1.specs.Times.{two_at, utc_year}

-- YYMMDDhhmm or YYMMDDhhmmss, and Z or a difference of four digits (X.680 47)
abbrev pub utc_time_form : List ℕ → Bool
utc_time_form octets =
    ((digit_count octets == 10) || (digit_count octets == 12))
    && (is_z (after_digits octets) || is_offset 4 (after_digits octets))

-- the date, the time and the difference exist; a year is one from 1950 to 2049
abbrev pub utc_time_exists : List ℕ → Bool
utc_time_exists octets =
    exists_date (utc_year (two_at 0 octets)) (two_at 2 octets) (two_at 4 octets)
    && (exists_time (digit_count octets - 6) 6 octets && exists_offset (after_digits octets))

-- Z (11.8.1)
abbrev pub utc_time_ends_in_z : List ℕ → Bool
utc_time_ends_in_z octets = is_z (after_digits octets)

-- the seconds are there (11.8.2)
abbrev pub utc_time_has_seconds : List ℕ → Bool
utc_time_has_seconds octets = digit_count octets == 12
