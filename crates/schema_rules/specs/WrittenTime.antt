-- UTCTime and GeneralizedTime as they are written (X.680 46, 47): a date and a time of day, of which some may be
-- left out, a fraction, and the difference from UTC.
use Rattle.std.specs.Prelude.{◌≡◌, ◌⊎◌, ℕ, ◌+◌, ◌*◌, ◌/◌, ◌%◌, ◌<◌, ◌≤◌, true, ℤ, pos, ◌-ℤ◌, List, [], ◌∷◌, ◌++◌, Option, Some, None}
use Rattle.std.specs.List.{AllByRecursion}
use Rattle.der_asn1.specs.Times.{two_digits, is_date_time, is_utc_time}
use Rattle.der_asn1.specs.declared.times.date_time.DateTime.{DateTime}

-- the time of day, and the seconds of its last part: hh, hhmm or hhmmss. What is left out is zero
pub data IsClock (t : DateTime) : ℕ → List ℕ → Type 0 where
  hours : t.minute ≡ 0 → t.second ≡ 0 → IsClock t 3600 (two_digits t.hour)
  minutes : t.second ≡ 0 → IsClock t 60 (two_digits t.hour ++ two_digits t.minute)
  seconds : IsClock t 1 (two_digits t.hour ++ (two_digits t.minute ++ two_digits t.second))

-- how many seconds a time is ahead of UTC: Z, or a sign and hhmm (46.2, 47.3)
pub data IsZone : ℤ → List ℕ → Type 0 where
  utc : IsZone (pos 0) (90 ∷ [])
  ahead : (h m : ℕ) → h < 24 → m < 60
      → IsZone (pos (3600 * h + 60 * m)) (43 ∷ two_digits h ++ two_digits m)
  behind : (h m : ℕ) → h < 24 → m < 60
      → IsZone (pos 0 -ℤ pos (3600 * h + 60 * m)) (45 ∷ two_digits h ++ two_digits m)

-- YYMMDDhhmm or YYMMDDhhmmss, and the zone: a time that exists, in a year from 1950 to 2049 (47.3; RFC 5280,
-- 4.1.2.5.1)
pub record IsUtcTime (octets : List ℕ) (t : DateTime) (difference : ℤ) : Type 0 where
  pub exists : is_utc_time t ≡ true
  pub unit : ℕ
  pub clock : List ℕ
  pub zone : List ℕ
  pub of_day : IsClock t unit clock
  pub whole : unit ≤ 60
  pub end : IsZone difference zone
  pub spelled :
      octets ≡ two_digits (t.year % 100) ++ (two_digits t.month ++ (two_digits t.day ++ (clock ++ zone)))

-- the zone of a GeneralizedTime: that of a UTCTime, a sign and hh, or nothing in a local time (46.2, 46.3)
pub data IsAnyZone : Option ℤ → List ℕ → Type 0 where
  full : {d : ℤ} {zone : List ℕ} → IsZone d zone → IsAnyZone (Some d) zone
  ahead_hours : (h : ℕ) → h < 24 → IsAnyZone (Some (pos (3600 * h))) (43 ∷ two_digits h)
  behind_hours : (h : ℕ) → h < 24 → IsAnyZone (Some (pos 0 -ℤ pos (3600 * h))) (45 ∷ two_digits h)
  local : IsAnyZone None []

abbrev pub IsDigit : ℕ → Type 0
IsDigit o = (48 ≤ o) × (o ≤ 57)

-- a fraction of the last part: a full stop or a comma, and digits, one at least; or none (46.2)
pub data IsFraction : List ℕ → List ℕ → Type 0 where
  none : IsFraction [] []
  part : (mark digit : ℕ) (digits : List ℕ) → (mark ≡ 46) ⊎ (mark ≡ 44) → IsDigit digit
      → AllByRecursion IsDigit digits → IsFraction (digit ∷ digits) (mark ∷ digit ∷ digits)

-- YYYYMMDDhh, YYYYMMDDhhmm or YYYYMMDDhhmmss, a fraction of the last part, and the zone: a time that exists
pub record IsGeneralizedTime (octets : List ℕ) (t : DateTime) (unit : ℕ) (fraction : List ℕ) (difference : Option ℤ)
    : Type 0 where
  pub exists : is_date_time t ≡ true
  pub clock : List ℕ
  pub marked : List ℕ
  pub zone : List ℕ
  pub of_day : IsClock t unit clock
  pub parts : IsFraction fraction marked
  pub end : IsAnyZone difference zone
  pub spelled :
      octets ≡ two_digits (t.year / 100) ++ (two_digits (t.year % 100) ++ (two_digits t.month
      ++ (two_digits t.day ++ (clock ++ (marked ++ zone)))))
