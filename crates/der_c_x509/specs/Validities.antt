-- The validity of a certificate (RFC 5280, 4.1.2.5): a SEQUENCE of two times in seconds since
-- 1970-01-01T00:00:00Z. Those from 1950 to 2049 are UTCTimes, and the others GeneralizedTimes.
use Rattle.std.specs.Prelude.{ℕ, ◌+◌, Bool, ℤ, pos, negsuc, nat_lt, if◌then◌else◌}
use Rattle.der_core.specs.Writer.{WriterState}
use Rattle.der_c_core.specs.WriterCalls.{WritesHeader}
use Rattle.der_c_core.specs.declared.error.DerError.{DerError}
use Rattle.der_c_values.specs.TimeValues.{WritesSeconds}
use Rattle.der_c_values.specs.WriteCalls.{WritesThen}

-- whether a time is from 1950-01-01, and before 2050-01-01
abbrev pub is_utc_validity : ℤ → Bool
is_utc_validity (pos n) = nat_lt n 2524608000
is_utc_validity (negsuc n) = nat_lt n 631152000

-- the word of the type of a time
abbrev pub validity_type : ℤ → ℕ
validity_type seconds = if is_utc_validity seconds then 23 else 24

-- how many octets a time has, with its header
abbrev pub validity_size : ℤ → ℕ
validity_size seconds = if is_utc_validity seconds then 15 else 17

abbrev pub WritesTime : ℤ → WriterState → DerError → WriterState → Type 0
WritesTime seconds = WritesSeconds (validity_type seconds) seconds (validity_type seconds)

-- the header, and then both times
abbrev pub WritesValidity : ℤ → ℤ → WriterState → DerError → WriterState → Type 0
WritesValidity first last =
    WritesThen (WritesHeader 48 (validity_size first + validity_size last))
    (WritesThen (WritesTime first) (WritesTime last))
