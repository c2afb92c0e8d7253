-- Instants of times: what is read of a UTCTime, and the years of seconds.
use Rattle.std.proofs.Common.{◌≡◌, ◌⊎◌, inl, inr, ℕ, ℤ, zero, suc, Bool, true, false, ◌+◌, ◌*◌, ◌-◌, ◌/◌, ◌%◌, ◌<◌, ◌≤◌, ◌==◌, ◌&&◌, List, [], ◌∷◌, ◌++◌, drop, slice_index_or, refl, sym, subst, ap, ◌∙◌, nat_lt, nat_le, pos, Some, Option, ⊎_elim, arith}
use Rattle.std.specs.Prelude.{◌+ℤ◌, ◌-ℤ◌, if◌then◌else◌}
use Rattle.std.proofs.lemmas.Bool.{cases_Bool, and_parts, ltb-true, leb-true, cases_lt}
use Rattle.std.proofs.lemmas.Int.{ints}
use Rattle.std.specs.Cmp.Derive.{both_true}
use Rattle.der_asn1.proofs.TimeLemmas.{bounded, IsBounded}
use Rattle.der_asn1.proofs.UnixTimeLemmas.{days_closed}
use Rattle.schema_rules.proofs.TimeFormLemmas.{count_chunk}
use Rattle.schema_rules.proofs.WrittenUtcLemmas.{bounds_of, ten_digits, twelve_digits, year_back_utc}
use Rattle.schema_rules.proofs.WrittenZoneLemmas.{zone_checked, two_back}
use Rattle.schema_rules.specs.Digits.{digit_count, after_digits}
use Rattle.der_asn1.specs.Times.{two_at, two_digits, utc_year, is_date_time, is_utc_time, days_of, is_leap_year}
use Rattle.der_asn1.specs.UnixTime.{days_of_year, days_before_year, days_of_months, day_number, second_number, unix_seconds}
use Rattle.schema_rules.specs.WrittenTime.{IsClock, hours, minutes, seconds, IsZone, utc, ahead, behind, IsUtcTime, IsAnyZone, full, ahead_hours, behind_hours, local}
use Rattle.der_asn1.specs.declared.times.date_time.DateTime.{DateTime}

-- the days of a year and those of its February
leap : (y : ℕ) → (if is_leap_year y then 366 else 365) ≡ 337 + (if is_leap_year y then 29 else 28)
leap y = of (is_leap_year y)
  where
    of : (b : Bool) → (if b then 366 else 365) ≡ 337 + (if b then 29 else 28)
    of true = refl
    of false = refl

-- the days of a year before a day of it are fewer than those of the year
day_in_year : (y m d : ℕ) → 0 < m → m < 13 → 0 < d → d ≤ days_of y m → days_of_months y (m - 1) + (d - 1) < days_of_year y
day_in_year y zero d a b c e = absurd (omega (arith, a))
day_in_year y (suc zero) d a b c e = omega (arith, leap y, c, e)
day_in_year y (suc (suc zero)) d a b c e = omega (arith, leap y, c, e)
day_in_year y (suc (suc (suc zero))) d a b c e = omega (arith, leap y, c, e)
day_in_year y (suc (suc (suc (suc zero)))) d a b c e = omega (arith, leap y, c, e)
day_in_year y (suc (suc (suc (suc (suc zero))))) d a b c e = omega (arith, leap y, c, e)
day_in_year y (suc (suc (suc (suc (suc (suc zero)))))) d a b c e = omega (arith, leap y, c, e)
day_in_year y (suc (suc (suc (suc (suc (suc (suc zero))))))) d a b c e = omega (arith, leap y, c, e)
day_in_year y (suc (suc (suc (suc (suc (suc (suc (suc zero)))))))) d a b c e = omega (arith, leap y, c, e)
day_in_year y (suc (suc (suc (suc (suc (suc (suc (suc (suc zero))))))))) d a b c e = omega (arith, leap y, c, e)
day_in_year y (suc (suc (suc (suc (suc (suc (suc (suc (suc (suc zero)))))))))) d a b c e = omega (arith, leap y, c, e)
day_in_year y (suc (suc (suc (suc (suc (suc (suc (suc (suc (suc (suc zero))))))))))) d a b c e = omega (arith, leap y, c, e)
day_in_year y (suc (suc (suc (suc (suc (suc (suc (suc (suc (suc (suc (suc zero)))))))))))) d a b c e = omega (arith, leap y, c, e)
day_in_year y (suc (suc (suc (suc (suc (suc (suc (suc (suc (suc (suc (suc (suc m))))))))))))) d a b c e = absurd (omega (arith, b))

-- the bounds of a date
record IsDay (t : DateTime) : Type 0 where
  first : 0 < t.month
  last : t.month < 13
  start : 0 < t.day
  end : t.day ≤ days_of t.year t.month

day_of : (t : DateTime) → is_date_time t ≡ true → IsDay t
day_of t is =
    let last = nat_le t.day (days_of t.year t.month) in
    let time = nat_lt t.hour 24 && (nat_lt t.minute 60 && nat_lt t.second 60) in
    let y = and_parts (nat_lt t.year 10000) (nat_lt 0 t.month && (nat_lt t.month 13 && (nat_lt 0 t.day && (last && time)))) is in
    let a = and_parts (nat_lt 0 t.month) (nat_lt t.month 13 && (nat_lt 0 t.day && (last && time))) y.1 in
    let b = and_parts (nat_lt t.month 13) (nat_lt 0 t.day && (last && time)) a.1 in
    let c = and_parts (nat_lt 0 t.day) (last && time) b.1 in
    let d = and_parts last time c.1 in
    record { first = ltb-true 0 t.month a.0; last = ltb-true t.month 13 b.0; start = ltb-true 0 t.day c.0; end = leb-true t.day (days_of t.year t.month) d.0 }

-- the seconds of a time are those of its year
seconds_of_year : (t : DateTime) → is_date_time t ≡ true
    → (86400 * days_before_year t.year ≤ second_number t) × (second_number t < 86400 * days_before_year (suc t.year))
seconds_of_year t is =
    let b = bounded t is in
    let d = day_of t is in
    let few = day_in_year t.year t.month t.day d.first d.last d.start d.end in
    (omega arith, omega (arith, few, b.hour, b.minute, b.second))

years_rise : (y z : ℕ) → y ≤ z → days_before_year y ≤ days_before_year z
years_rise y zero h = let e : y ≡ zero = omega (arith, h) in rw e (omega arith)
years_rise y (suc z) h = ⊎_elim
    (λ less. let r = years_rise y z (omega (arith, less)) in omega (arith, r))
    (λ (more : suc z ≤ y). let e : y ≡ suc z = omega (arith, h, more) in rw e (omega arith))
    (cases_lt y (suc z))

-- times with the same seconds have the same year
same_seconds : (t u : DateTime) → is_date_time t ≡ true → is_date_time u ≡ true → second_number t ≡ second_number u → t.year ≡ u.year
same_seconds t u is also e =
    let a = seconds_of_year t is in
    let b = seconds_of_year u also in
    ⊎_elim
    (λ less. let r = years_rise (suc t.year) u.year (omega (arith, less)) in absurd (omega (arith, a.1, b.0, r, e)))
    (λ more. ⊎_elim
    (λ less. let r = years_rise (suc u.year) t.year (omega (arith, less)) in absurd (omega (arith, b.1, a.0, r, e)))
    (λ over. omega (arith, more, over))
    (cases_lt u.year t.year))
    (cases_lt t.year u.year)

-- the seconds of all times
pub all_seconds : (t : DateTime) → is_date_time t ≡ true → second_number t < 315569520000
all_seconds t is =
    let a = seconds_of_year t is in
    let b = bounded t is in
    let r = years_rise (suc t.year) 10000 (omega (arith, b.year)) in
    let c = days_closed 10000 in
    omega (arith, a.1, r, c)

pub date_of_utc : (t : DateTime) → is_utc_time t ≡ true → is_date_time t ≡ true
date_of_utc t is = (and_parts (nat_lt t.year 2050) (is_date_time t) (and_parts (nat_le 1950 t.year) (nat_lt t.year 2050 && is_date_time t) is).1).1

-- what is read of a UTCTime
pub record UtcParts (os : List ℕ) (t : DateTime) (d : ℤ) : Type 0 where
  pub year : utc_year (two_at 0 os) ≡ t.year
  pub month : two_at 2 os ≡ t.month
  pub day : two_at 4 os ≡ t.day
  pub hour : two_at 6 os ≡ t.hour
  pub minute : two_at 8 os ≡ t.minute
  pub size : ((digit_count os ≡ 10) × (t.second ≡ 0)) ⊎ ((digit_count os ≡ 12) × (two_at 10 os ≡ t.second))
  pub zone : IsZone d (drop (digit_count os) os)

pub utc_parts : (os : List ℕ) (t : DateTime) (d : ℤ) → IsUtcTime os t d → UtcParts os t d
utc_parts os t d w = subst (λ l. UtcParts l t d) (sym w.spelled) (of w.whole w.of_day)
  where
    b : IsBounded t
    b = bounds_of t w.exists

    n : digit_count w.zone ≡ 0
    n = (zone_checked w.end).none

    of : {unit : ℕ} {clock : List ℕ} → unit ≤ 60 → IsClock t unit clock
        → UtcParts (two_digits (t.year % 100) ++ (two_digits t.month ++ (two_digits t.day ++ (clock ++ w.zone)))) t d
    of few (hours m s) = absurd (omega (arith, few))
    of few (minutes s) =
        let count = ten_digits t w.zone w.exists n in
        record {
          year = year_back_utc t w.exists;
          month = two_back t.month (omega (arith, b.month));
          day = two_back t.day (omega (arith, b.day));
          hour = two_back t.hour (omega (arith, b.hour));
          minute = two_back t.minute (omega (arith, b.minute));
          size = inl (count, s);
          zone = subst (λ k. IsZone d (drop k (two_digits (t.year % 100) ++ (two_digits t.month ++ (two_digits t.day ++ ((two_digits t.hour ++ two_digits t.minute) ++ w.zone)))))) (sym count) w.end;
        }
    of few seconds =
        let count = twelve_digits t w.zone w.exists n in
        record {
          year = year_back_utc t w.exists;
          month = two_back t.month (omega (arith, b.month));
          day = two_back t.day (omega (arith, b.day));
          hour = two_back t.hour (omega (arith, b.hour));
          minute = two_back t.minute (omega (arith, b.minute));
          size = inr (count, two_back t.second (omega (arith, b.second)));
          zone = subst (λ k. IsZone d (drop k (two_digits (t.year % 100) ++ (two_digits t.month ++ (two_digits t.day ++ ((two_digits t.hour ++ (two_digits t.minute ++ two_digits t.second)) ++ w.zone)))))) (sym count) w.end;
        }

same_time : (t : DateTime) {y o d h m s : ℕ} → y ≡ t.year → o ≡ t.month → d ≡ t.day → h ≡ t.hour → m ≡ t.minute → s ≡ t.second
    → record { year = y; month = o; day = d; hour = h; minute = m; second = s } ≡ t
same_time t ey eo ed eh em es = rw (ey, eo, ed, eh, em, es) refl

-- what is read is the time
pub utc_read_twelve : {os : List ℕ} {t : DateTime} {diff : ℤ} {y o d h m s : ℕ} → IsUtcTime os t diff → digit_count os ≡ 12
    → y ≡ utc_year (two_at 0 os) → o ≡ two_at 2 os → d ≡ two_at 4 os → h ≡ two_at 6 os → m ≡ two_at 8 os → s ≡ two_at 10 os
    → record { year = y; month = o; day = d; hour = h; minute = m; second = s } ≡ t
utc_read_twelve {os} {t} {diff} is count a b c e f g =
    let p = utc_parts os t diff is in
    let second = ⊎_elim (λ q. absurd (omega (arith, q.0, count))) (λ q. q.1) p.size in
    same_time t (a ∙ p.year) (b ∙ p.month) (c ∙ p.day) (e ∙ p.hour) (f ∙ p.minute) (g ∙ second)

pub utc_read_ten : {os : List ℕ} {t : DateTime} {diff : ℤ} {y o d h m : ℕ} → IsUtcTime os t diff → (digit_count os ≡ 12 → ⊥)
    → y ≡ utc_year (two_at 0 os) → o ≡ two_at 2 os → d ≡ two_at 4 os → h ≡ two_at 6 os → m ≡ two_at 8 os
    → record { year = y; month = o; day = d; hour = h; minute = m; second = 0 } ≡ t
utc_read_ten {os} {t} {diff} is other a b c e f =
    let p = utc_parts os t diff is in
    let second : 0 ≡ t.second = ⊎_elim (λ q. sym q.1) (λ q. absurd (other q.0)) p.size in
    same_time t (a ∙ p.year) (b ∙ p.month) (c ∙ p.day) (e ∙ p.hour) (f ∙ p.minute) second

inner : {a b : ℤ} → Some a ≡ Some b → a ≡ b
inner e = cc

-- the difference, by the sign
pub record IsSigned (zone : List ℕ) (d : ℤ) : Type 0 where
  pub plus : slice_index_or zone 0 0 ≡ 43 → d ≡ pos (3600 * two_at 1 zone + 60 * two_at 3 zone)
  pub minus : slice_index_or zone 0 0 ≡ 45 → d ≡ pos 0 -ℤ pos (3600 * two_at 1 zone + 60 * two_at 3 zone)
  pub other : (slice_index_or zone 0 0 ≡ 43 → ⊥) → (slice_index_or zone 0 0 ≡ 45 → ⊥) → d ≡ pos 0

four_value : (o h m : ℕ) → h < 24 → m < 60 → 3600 * h + 60 * m ≡ 3600 * two_at 1 (o ∷ two_digits h ++ two_digits m) + 60 * two_at 3 (o ∷ two_digits h ++ two_digits m)
four_value o h m hour minute =
    let first : two_at 1 (o ∷ two_digits h ++ two_digits m) ≡ h = two_back h (omega (arith, hour)) in
    let second : two_at 3 (o ∷ two_digits h ++ two_digits m) ≡ m = two_back m (omega (arith, minute)) in
    omega (arith, first, second)

two_value : (o h : ℕ) → h < 24 → 3600 * h ≡ 3600 * two_at 1 (o ∷ two_digits h) + 60 * two_at 3 (o ∷ two_digits h)
two_value o h hour =
    let first : two_at 1 (o ∷ two_digits h) ≡ h = two_back h (omega (arith, hour)) in
    omega (arith, first)

signed : {o : Option ℤ} {zone : List ℕ} → IsAnyZone o zone → (d : ℤ) → o ≡ Some d → IsSigned zone d
signed (full utc) d f = record { plus = λ e. absurd (omega (arith, e)); minus = λ e. absurd (omega (arith, e)); other = λ _ _. inner (sym f) }
signed (full (ahead h m hour minute)) d f = record { plus = λ _. inner (sym f) ∙ ap pos (four_value 43 h m hour minute); minus = λ e. absurd (omega (arith, e)); other = λ no _. absurd (no refl) }
signed (full (behind h m hour minute)) d f = record { plus = λ e. absurd (omega (arith, e)); minus = λ _. inner (sym f) ∙ ap (λ n. pos 0 -ℤ pos n) (four_value 45 h m hour minute); other = λ _ no. absurd (no refl) }
signed (ahead_hours h hour) d f = record { plus = λ _. inner (sym f) ∙ ap pos (two_value 43 h hour); minus = λ e. absurd (omega (arith, e)); other = λ no _. absurd (no refl) }
signed (behind_hours h hour) d f = record { plus = λ e. absurd (omega (arith, e)); minus = λ _. inner (sym f) ∙ ap (λ n. pos 0 -ℤ pos n) (two_value 45 h hour); other = λ _ no. absurd (no refl) }
signed local d f = absurd (cc)

pub zone_signed : (zone : List ℕ) (d : ℤ) → IsAnyZone (Some d) zone → IsSigned zone d
zone_signed zone d is = signed is d refl

-- a local time and its difference are what is read
pub moved : {z : ℤ} {local t : DateTime} (d : ℤ) → z ≡ unix_seconds local +ℤ pos 0 -ℤ d → local ≡ t → z ≡ unix_seconds t -ℤ d
moved {z} {local} {t} d e same =
    let plus : unix_seconds local +ℤ pos 0 ≡ unix_seconds local = omega (arith, ints) in
    e ∙ ap (λ n. n -ℤ d) plus ∙ ap (λ l. unix_seconds l -ℤ d) same

pub zone_there : {os zone : List ℕ} {t : DateTime} {d : ℤ} → zone ≡ after_digits os → IsUtcTime os t d → IsAnyZone (Some d) zone
zone_there {os} {zone} {t} {d} e is = subst (IsAnyZone (Some d)) (sym e) (full (utc_parts os t d is).zone)

-- a time in UTC, and one with the same seconds
pub utc_year_same : (t u : DateTime) → is_date_time t ≡ true → is_utc_time u ≡ true → unix_seconds t ≡ unix_seconds u → is_utc_time t ≡ true
utc_year_same t u is also e =
    let a = and_parts (nat_le 1950 u.year) (nat_lt u.year 2050 && is_date_time u) also in
    let b = and_parts (nat_lt u.year 2050) (is_date_time u) a.1 in
    let same : second_number t ≡ second_number u = omega (arith, ints, e) in
    let year = same_seconds t u is b.1 same in
    both_true (subst (λ y. nat_le 1950 y ≡ true) (sym year) a.0) (both_true (subst (λ y. nat_lt y 2050 ≡ true) (sym year) b.0) is)
