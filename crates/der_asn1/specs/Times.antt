-- Dates with a time of day (`is_date_time`, `is_utc_time`), and how they are written
-- (`generalized_octets`, `utc_octets`) and read (`generalized_reading`, `utc_reading`; X.690 11.7,
-- 11.8; RFC 5280, 4.1.2.5).
use Rattle.std.specs.Prelude.{ℕ, ◌+◌, ◌*◌, ◌/◌, ◌%◌, ◌==◌, ◌&&◌, ◌||◌, not, Bool, nat_lt, nat_le}
use Rattle.std.specs.Prelude.{List, [], ◌∷◌, ◌++◌, length, if◌then◌else◌, slice_index_or}
use Rattle.std.specs.Ordering.{ordering_then, nat_cmp}
use Rattle.std.specs.Str.{bytes_eq}
use Rattle.std.specs.declared.cmp.Ordering.{Ordering}
use Rattle.der_asn1.specs.declared.times.date_time.DateTime.{DateTime}

-- whether a year of the Gregorian calendar has 366 days
abbrev pub is_leap_year : ℕ → Bool
is_leap_year year = (year % 4 == 0) && (not (year % 100 == 0) || (year % 400 == 0))

-- the number of days of a month
abbrev pub days_of : ℕ → ℕ → ℕ
days_of year month =
    if month == 2 then (if is_leap_year year then 29 else 28)
    else if (month == 4) || (month == 6) || (month == 9) || (month == 11) then 30 else 31

-- whether the date exists, with a year of at most four digits, and the time too
abbrev pub is_date_time : DateTime → Bool
is_date_time t =
    nat_lt t.year 10000 && (nat_lt 0 t.month && (nat_lt t.month 13 && (nat_lt 0 t.day
    && (nat_le t.day (days_of t.year t.month) && (nat_lt t.hour 24 && (nat_lt t.minute 60
    && nat_lt t.second 60))))))

-- whether the time exists, in a year from 1950 to 2049, which two digits determine
abbrev pub is_utc_time : DateTime → Bool
is_utc_time t = nat_le 1950 t.year && (nat_lt t.year 2050 && is_date_time t)

-- which of two times comes first: the year decides, then the month, the day, the hour, the minute
-- and the second
abbrev pub time_order : DateTime → DateTime → Ordering
time_order a b =
    ordering_then (nat_cmp a.year b.year)
    (ordering_then (nat_cmp a.month b.month)
    (ordering_then (nat_cmp a.day b.day)
    (ordering_then (nat_cmp a.hour b.hour)
    (ordering_then (nat_cmp a.minute b.minute) (nat_cmp a.second b.second)))))

-- the two decimal digits of a number below 100
abbrev pub two_digits : ℕ → List ℕ
two_digits n = (48 + n / 10) ∷ (48 + n % 10) ∷ []

-- MMDDHHMMSSZ (11.7.1, 11.7.2, 11.8.1, 11.8.2)
abbrev pub time_octets : DateTime → List ℕ
time_octets t =
    two_digits t.month ++ two_digits t.day ++ two_digits t.hour ++ two_digits t.minute
    ++ two_digits t.second ++ 90 ∷ []

-- the contents of a GeneralizedTime: the year has four digits
abbrev pub generalized_octets : DateTime → List ℕ
generalized_octets t = two_digits (t.year / 100) ++ two_digits (t.year % 100) ++ time_octets t

-- the contents of a UTCTime: the year has two digits
abbrev pub utc_octets : DateTime → List ℕ
utc_octets t = two_digits (t.year % 100) ++ time_octets t

-- the number whose two decimal digits are at a place, if there are digits
abbrev pub two_at : ℕ → List ℕ → ℕ
two_at i octets = slice_index_or octets i 0 % 16 * 10 + slice_index_or octets (i + 1) 0 % 16

-- the time whose month begins at a place
abbrev pub time_from : ℕ → ℕ → List ℕ → DateTime
time_from year i octets =
    record {
      year = year;
      month = two_at i octets;
      day = two_at (i + 2) octets;
      hour = two_at (i + 4) octets;
      minute = two_at (i + 6) octets;
      second = two_at (i + 8) octets;
    }

-- the year from 1950 to 2049 with these last two digits
abbrev pub utc_year : ℕ → ℕ
utc_year n = if nat_lt n 50 then 2000 + n else 1900 + n

-- the time that the contents encode, if they are valid
abbrev pub generalized_reading : List ℕ → DateTime
generalized_reading octets = time_from (two_at 0 octets * 100 + two_at 2 octets) 4 octets

abbrev pub utc_reading : List ℕ → DateTime
utc_reading octets = time_from (utc_year (two_at 0 octets)) 2 octets

-- whether contents are valid: the time that is read from them exists and is written as these
-- contents
abbrev pub generalized_form : List ℕ → Bool
generalized_form octets =
    (length octets == 15) && (is_date_time (generalized_reading octets)
    && bytes_eq (generalized_octets (generalized_reading octets)) octets)

abbrev pub utc_form : List ℕ → Bool
utc_form octets =
    (length octets == 13) && (is_date_time (utc_reading octets)
    && bytes_eq (utc_octets (utc_reading octets)) octets)
