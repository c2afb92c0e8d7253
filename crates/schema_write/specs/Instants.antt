-- The contents octets of times under DER, beside others of the same instant under BER: seconds from 1970 on, and a
-- fraction, both exact (X.690 11.7, 11.8).
use Rattle.std.specs.Prelude.{◌≡◌, ◌≢◌, ℕ, ◌+◌, ◌*◌, ◌-◌, ◌^◌, true, ℤ, pos, ◌+ℤ◌, ◌-ℤ◌, List, [], ◌∷◌, ◌++◌, length, Option, Some, None}
use Rattle.std.specs.List.{AllByRecursion}
use Rattle.der_asn1.specs.Times.{is_utc_time, is_date_time, utc_octets, two_digits}
use Rattle.der_asn1.specs.UnixTime.{unix_seconds}
use Rattle.der_asn1.specs.declared.times.date_time.DateTime.{DateTime}
use Rattle.schema_rules.specs.WrittenTime.{IsUtcTime}

-- contents of a UTCTime have the instant of a time in UTC
abbrev pub HasUtcInstant : List ℕ → DateTime → Type 0
HasUtcInstant text u =
    (t : DateTime) (d : ℤ) → IsUtcTime text t d → unix_seconds u ≡ unix_seconds t -ℤ d

-- they become those of their instant under DER, and stay as they are if its year is not from 1950 to 2049
pub data IsUtcTimeInDer (text : List ℕ) : List ℕ → Type 0 where
  in_utc : (u : DateTime) → is_utc_time u ≡ true → HasUtcInstant text u → IsUtcTimeInDer text (utc_octets u)
  kept : ((t u : DateTime) (d : ℤ) → IsUtcTime text t d → is_utc_time u ≡ true
      → unix_seconds u ≡ unix_seconds t -ℤ d → ⊥) → IsUtcTimeInDer text text
