-- The useful time types (X.690 8.26): DATE, TIME-OF-DAY and DATE-TIME, without hyphens and colons.
use Rattle.std.specs.Prelude.{ℕ, ◌+◌, ◌*◌, ◌==◌, ◌&&◌, ◌||◌, Bool, nat_le, List}
use Rattle.der_asn1.specs.Times.{two_at}
use Rattle.schema_rules.specs.Zone.{exists_date, exists_time}

-- a date from the year 1582 on, in which the Gregorian calendar begins
abbrev pub date_exists : List ℕ → Bool
date_exists octets =
    nat_le 1582 (two_at 0 octets * 100 + two_at 2 octets)
    && exists_date (two_at 0 octets * 100 + two_at 2 octets) (two_at 4 octets) (two_at 6 octets)

-- the end of a day
abbrev pub is_midnight : ℕ → List ℕ → Bool
is_midnight at octets =
    (two_at at octets == 24) && ((two_at (at + 2) octets == 0) && (two_at (at + 4) octets == 0))

-- the time exists, or is 24:00:00
abbrev pub time_exists_at : ℕ → List ℕ → Bool
time_exists_at at octets = exists_time 6 at octets || is_midnight at octets

abbrev pub date_time_exists : List ℕ → Bool
date_time_exists octets = date_exists octets && time_exists_at 8 octets
