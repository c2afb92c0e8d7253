-- Seconds since 1970-01-01T00:00:00Z (`unix_seconds`), without leap seconds (POSIX, "Seconds Since
-- the Epoch"), and the day number on which they rest (`day_number`).
use Rattle.std.specs.Prelude.{ℕ, zero, suc, ◌+◌, ◌-◌, ◌*◌, ℤ, pos, ◌-ℤ◌, if◌then◌else◌}
use Rattle.der_asn1.specs.declared.times.date_time.DateTime.{DateTime}
use Rattle.der_asn1.specs.Times.{is_leap_year, days_of}

-- the number of days of a year
abbrev pub days_of_year : ℕ → ℕ
days_of_year year = if is_leap_year year then 366 else 365

-- the days of all years from year 0 that are before this one
abbrev pub days_before_year : ℕ → ℕ
days_before_year zero = 0
days_before_year (suc y) = days_before_year y + days_of_year y

-- the days of the first n months of a year
abbrev pub days_of_months : ℕ → ℕ → ℕ
days_of_months year zero = 0
days_of_months year (suc n) = days_of_months year n + days_of year (suc n)

-- the days before a date, from the first day of year 0
abbrev pub day_number : DateTime → ℕ
day_number t = days_before_year t.year + days_of_months t.year (t.month - 1) + (t.day - 1)

-- the seconds before a time, from the first day of year 0
abbrev pub second_number : DateTime → ℕ
second_number t = 86400 * day_number t + (3600 * t.hour + 60 * t.minute + t.second)

-- the seconds from the first day of 1970; they are negative for a time before it
abbrev pub unix_seconds : DateTime → ℤ
unix_seconds t = pos (second_number t) -ℤ pos (86400 * days_before_year 1970)
