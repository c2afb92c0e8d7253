-- Times as C sees them: `date_of` is the date and the time of day; a time type is the word of its
-- universal tag, UTCTime or GeneralizedTime (`is_time_type`, `is_time_of`, `time_contents`,
-- `time_form`); `IsTimeOf` is what is read, and `WritesSeconds` the result of writing seconds.
use Rattle.std.specs.Prelude.{◌≡◌, ◌⊎◌, ℕ, ◌==◌, ◌||◌, Bool, true, false, ℤ, pos, negsuc, ◌<ℤ◌, ◌≤ℤ◌, List, if◌then◌else◌}
use Rattle.der_core.specs.Writer.{WriterState}
use Rattle.der_asn1.specs.Times.{is_date_time, is_utc_time, generalized_octets, generalized_form, utc_octets, utc_form}
use Rattle.der_asn1.specs.UnixTime.{unix_seconds}
use Rattle.der_asn1.specs.declared.times.date_time.DateTime.{DateTime}
use Rattle.der_c_core.specs.WriterCalls.{WritesElement}
use Rattle.der_c_core.specs.declared.error.DerError.{DerError}
use Rattle.der_c_values.specs.WriteCalls.{RefusesNoValue}
use Rattle.der_c_values.specs.declared.time.DerTime.{DerTime}

abbrev pub date_of : DerTime → DateTime
date_of t =
    record {
      year = t.year;
      month = t.month;
      day = t.day;
      hour = t.hour;
      minute = t.minute;
      second = t.second;
    }

-- UTCTime, GeneralizedTime
abbrev pub is_time_type : ℕ → Bool
is_time_type word = (word == 23) || (word == 24)

-- whether the time exists, for a UTCTime in a year from 1950 to 2049
abbrev pub is_time_of : ℕ → DateTime → Bool
is_time_of word t =
    if word == 23 then is_utc_time t else if word == 24 then is_date_time t else false

-- the contents of a time of the type (X.690 11.7, 11.8)
abbrev pub time_contents : ℕ → DateTime → List ℕ
time_contents word t = if word == 23 then utc_octets t else generalized_octets t

-- whether octets are the contents of a time of the type
abbrev pub time_form : ℕ → List ℕ → Bool
time_form word octets =
    if word == 23 then utc_form octets else if word == 24 then generalized_form octets else false

-- a time of the type, which has these contents, with its seconds since 1970
pub record IsTimeOf (word : ℕ) (octets : List ℕ) (t : DerTime) : Type 0 where
  pub is_time : is_time_of word (date_of t) ≡ true
  pub contents : time_contents word (date_of t) ≡ octets
  pub seconds : t.seconds ≡ unix_seconds (date_of t)

-- the seconds are before year 0, or after year 9999; or the type has not the time of these seconds;
-- or an element with its contents is written
pub data WritesSeconds (time_type : ℕ) (seconds : ℤ) (word : ℕ) (s : WriterState)
    (result : DerError) (u : WriterState) : Type 0 where
  no_date : (seconds <ℤ negsuc 62167219199) ⊎ (pos 253402300800 ≤ℤ seconds)
      → RefusesNoValue word s result u
      → WritesSeconds time_type seconds word s result u
  no_value : (t : DateTime) → is_date_time t ≡ true → unix_seconds t ≡ seconds
      → is_time_of time_type t ≡ false → RefusesNoValue word s result u
      → WritesSeconds time_type seconds word s result u
  of_value : (t : DateTime) → is_time_of time_type t ≡ true → unix_seconds t ≡ seconds
      → WritesElement word (time_contents time_type t) s result u
      → WritesSeconds time_type seconds word s result u
