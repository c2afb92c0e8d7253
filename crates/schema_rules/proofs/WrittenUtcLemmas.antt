-- UTCTimes that are written as X.680 says are those that keep the rules of their form.
use Rattle.std.proofs.Common.{◌≡◌, ◌⊎◌, inl, inr, ℕ, ℤ, true, ◌+◌, ◌*◌, ◌-◌, ◌/◌, ◌%◌, ◌<◌, ◌≤◌, ◌==◌, ◌&&◌, ◌||◌, List, ◌++◌, drop, refl, sym, subst, ap, ◌∙◌, nat_lt, nat_le, arith}
use Rattle.std.proofs.lemmas.Bool.{and_parts, lt-ltb, ltb-true, le-leb, leb-true, eqb-true}
use Rattle.std.specs.Cmp.Derive.{both_true}
use Rattle.schema_rules.proofs.TimeFormLemmas.{chunk, count_chunk}
use Rattle.der_asn1.proofs.TimeLemmas.{bounded, IsBounded}
use Rattle.der_asn1.specs.declared.times.date_time.DateTime.{DateTime}
use Rattle.schema_rules.specs.Digits.{digit_count, after_digits}
use Rattle.der_asn1.specs.Times.{two_at, two_digits, utc_year, is_date_time, is_utc_time}
use Rattle.schema_rules.specs.UtcTime.{utc_time_form, utc_time_exists}
use Rattle.schema_rules.specs.WrittenTime.{IsClock, hours, minutes, seconds, IsZone, IsUtcTime}
use Rattle.schema_rules.specs.Zone.{is_z, is_offset, exists_offset, exists_date, exists_time}
use Rattle.schema_rules.proofs.WrittenZoneLemmas.{either, two_small, zone_written, valid, two_back, IsChecked, zone_checked, date_of, date_same, same_year, small_back}
use Rattle.schema_rules.specs.Laws.{UtcTimesAreWritten}
use Rattle.schema_rules.specs.Contents.{IsContents}
use Rattle.ber.specs.declared.universal.Universal.TheVariants as type
use Rattle.der_base.specs.declared.encoding_rules.EncodingRules.TheVariants.{Ber}

utc_years : (n : ℕ) → n < 100 → (1950 ≤ utc_year n) × ((utc_year n < 2050) × (utc_year n % 100 ≡ n))
utc_years n h = (grind arith, (grind arith, grind arith))

-- what is read of a UTCTime
record IsRead (os : List ℕ) (s : ℕ) : Type 0 where
  year : two_at 0 os < 100
  date : exists_date (utc_year (two_at 0 os)) (two_at 2 os) (two_at 4 os) ≡ true
  hour : two_at 6 os < 24
  minute : two_at 8 os < 60
  second : s < 60

time_read : List ℕ → ℕ → DateTime
time_read os s = record { year = utc_year (two_at 0 os); month = two_at 2 os; day = two_at 4 os; hour = two_at 6 os; minute = two_at 8 os; second = s }

utc_read : (os : List ℕ) (s : ℕ) → IsRead os s → is_utc_time (time_read os s) ≡ true
unfolding time_read
utc_read os s r =
    let y = utc_years (two_at 0 os) r.year in
    both_true (le-leb 1950 (utc_year (two_at 0 os)) y.0) (both_true (lt-ltb (utc_year (two_at 0 os)) 2050 y.1.0)
    (valid (utc_year (two_at 0 os)) (two_at 2 os) (two_at 4 os) (two_at 6 os) (two_at 8 os) s (omega (arith, y)) r.date r.hour r.minute r.second))

Written : List ℕ → Type 0
Written os = (t : DateTime) × (d : ℤ) × IsUtcTime os t d

-- the digits up to the day
day_back : (os rest : List ℕ) → 10 ≤ digit_count os → rest ≡ drop 6 os → two_at 0 os < 100
    → os ≡ two_digits (utc_year (two_at 0 os) % 100) ++ (two_digits (two_at 2 os) ++ (two_digits (two_at 4 os) ++ rest))
day_back os rest c e small =
    let e4 = chunk os rest 4 (omega (arith, c)) (sym e) in
    let e2 = chunk os _ 2 (omega (arith, c)) (sym e4) in
    let e0 : two_digits (two_at 0 os) ++ (two_digits (two_at 2 os) ++ (two_digits (two_at 4 os) ++ rest)) ≡ os = chunk os _ 0 (omega (arith, c)) (sym e2) in
    sym (ap (λ n. two_digits n ++ (two_digits (two_at 2 os) ++ (two_digits (two_at 4 os) ++ rest))) (utc_years (two_at 0 os) small).1.1 ∙ e0)

ten_written : (os : List ℕ) → digit_count os ≡ 10 → IsRead os 0 → (d : ℤ) → IsZone d (drop 10 os) → Written os
unfolding Written time_read
ten_written os c r d z =
    let e8 = chunk os (drop 10 os) 8 (omega (arith, c)) refl in
    let e6 = chunk os _ 6 (omega (arith, c)) (sym e8) in (
      time_read os 0,
      d,
      record {
        exists = utc_read os 0 r;
        unit = 60;
        clock = two_digits (two_at 6 os) ++ two_digits (two_at 8 os);
        zone = drop 10 os;
        of_day = minutes refl;
        whole = omega arith;
        end = z;
        spelled = day_back os _ (omega (arith, c)) e6 r.year;
      },
    )

twelve_written : (os : List ℕ) → digit_count os ≡ 12 → IsRead os (two_at 10 os) → (d : ℤ) → IsZone d (drop 12 os) → Written os
unfolding Written time_read
twelve_written os c r d z =
    let e10 = chunk os (drop 12 os) 10 (omega (arith, c)) refl in
    let e8 = chunk os _ 8 (omega (arith, c)) (sym e10) in
    let e6 = chunk os _ 6 (omega (arith, c)) (sym e8) in (
      time_read os (two_at 10 os),
      d,
      record {
        exists = utc_read os (two_at 10 os) r;
        unit = 1;
        clock = two_digits (two_at 6 os) ++ (two_digits (two_at 8 os) ++ two_digits (two_at 10 os));
        zone = drop 12 os;
        of_day = seconds;
        whole = omega arith;
        end = z;
        spelled = day_back os _ (omega (arith, c)) e6 r.year;
      },
    )

utc_written : (os : List ℕ) → utc_time_form os ≡ true → utc_time_exists os ≡ true → Written os
utc_written os form there = of (either (digit_count os == 10) (digit_count os == 12) p.0)
  where
    p : (((digit_count os == 10) || (digit_count os == 12)) ≡ true) × ((is_z (after_digits os) || is_offset 4 (after_digits os)) ≡ true)
    p = and_parts ((digit_count os == 10) || (digit_count os == 12)) (is_z (after_digits os) || is_offset 4 (after_digits os)) form

    q : (exists_date (utc_year (two_at 0 os)) (two_at 2 os) (two_at 4 os) ≡ true) × ((exists_time (digit_count os - 6) 6 os && exists_offset (after_digits os)) ≡ true)
    q = and_parts (exists_date (utc_year (two_at 0 os)) (two_at 2 os) (two_at 4 os)) (exists_time (digit_count os - 6) 6 os && exists_offset (after_digits os)) there

    r : (exists_time (digit_count os - 6) 6 os ≡ true) × (exists_offset (after_digits os) ≡ true)
    r = and_parts (exists_time (digit_count os - 6) 6 os) (exists_offset (after_digits os)) q.1

    z : (d : ℤ) × IsZone d (drop (digit_count os) os)
    z = zone_written (after_digits os) p.1 r.1

    of : ((digit_count os == 10) ≡ true) ⊎ ((digit_count os == 12) ≡ true) → Written os
    of (inl e) =
        let c = eqb-true (digit_count os) 10 e in
        let time = subst (λ n. exists_time (n - 6) 6 os ≡ true) c r.0 in
        let h = and_parts (nat_lt (two_at 6 os) 24) (nat_lt (two_at 8 os) 60 && true) time in
        let m = and_parts (nat_lt (two_at 8 os) 60) true h.1 in
        ten_written os c (record { year = two_small os 0 (omega (arith, c)); date = q.0; hour = ltb-true (two_at 6 os) 24 h.0; minute = ltb-true (two_at 8 os) 60 m.0; second = omega arith }) z.0 (subst (λ n. IsZone z.0 (drop n os)) c z.1)
    of (inr e) =
        let c = eqb-true (digit_count os) 12 e in
        let time = subst (λ n. exists_time (n - 6) 6 os ≡ true) c r.0 in
        let h = and_parts (nat_lt (two_at 6 os) 24) (nat_lt (two_at 8 os) 60 && nat_lt (two_at 10 os) 60) time in
        let m = and_parts (nat_lt (two_at 8 os) 60) (nat_lt (two_at 10 os) 60) h.1 in
        twelve_written os c (record { year = two_small os 0 (omega (arith, c)); date = q.0; hour = ltb-true (two_at 6 os) 24 h.0; minute = ltb-true (two_at 8 os) 60 m.0; second = ltb-true (two_at 10 os) 60 m.1 }) z.0 (subst (λ n. IsZone z.0 (drop n os)) c z.1)

-- the octets of a date and what follows
dated : DateTime → List ℕ → List ℕ
dated t rest = two_digits (t.year % 100) ++ (two_digits t.month ++ (two_digits t.day ++ rest))

date_checked : (t : DateTime) (rest : List ℕ) → is_utc_time t ≡ true
    → (exists_date (utc_year (two_at 0 (dated t rest))) (two_at 2 (dated t rest)) (two_at 4 (dated t rest)) ≡ true) × (digit_count (dated t rest) ≡ 6 + digit_count rest)
unfolding dated
date_checked t rest is =
    let u = and_parts (nat_le 1950 t.year) (nat_lt t.year 2050 && is_date_time t) is in
    let v = and_parts (nat_lt t.year 2050) (is_date_time t) u.1 in
    let b = bounded t v.1 in
    let year = two_back (t.year % 100) (omega arith) in (
      date_same _ t.year _ t.month _ t.day (ap utc_year year ∙ same_year t.year (leb-true 1950 t.year u.0) (ltb-true t.year 2050 v.0)) (two_back t.month (omega (arith, b.month))) (two_back t.day (omega (arith, b.day))) (date_of t v.1),
      count_chunk (t.year % 100) (two_digits t.month ++ (two_digits t.day ++ rest)) (omega arith) ∙ ap (λ k. 2 + k) (count_chunk t.month (two_digits t.day ++ rest) (omega (arith, b.month))
          ∙ ap (λ k. 2 + k) (count_chunk t.day rest (omega (arith, b.day)))) ∙ omega arith,
    )

Checked : List ℕ → Type 0
Checked os = (utc_time_form os ≡ true) × (utc_time_exists os ≡ true)

pub bounds_of : (t : DateTime) → is_utc_time t ≡ true → IsBounded t
bounds_of t is = bounded t (and_parts (nat_lt t.year 2050) (is_date_time t) (and_parts (nat_le 1950 t.year) (nat_lt t.year 2050 && is_date_time t) is).1).1

-- how many digits a UTCTime has
pub ten_digits : (t : DateTime) (zone : List ℕ) → is_utc_time t ≡ true → digit_count zone ≡ 0
    → digit_count (two_digits (t.year % 100) ++ (two_digits t.month ++ (two_digits t.day ++ ((two_digits t.hour ++ two_digits t.minute) ++ zone)))) ≡ 10
unfolding dated
ten_digits t zone is n =
    let b = bounds_of t is in
    (date_checked t ((two_digits t.hour ++ two_digits t.minute) ++ zone) is).1
    ∙ ap (λ k. 6 + k) (count_chunk t.hour (two_digits t.minute ++ zone) (omega (arith, b.hour)) ∙ ap (λ k. 2 + k) (count_chunk t.minute zone (omega (arith, b.minute)) ∙ ap (λ k. 2 + k) n))

pub twelve_digits : (t : DateTime) (zone : List ℕ) → is_utc_time t ≡ true → digit_count zone ≡ 0
    → digit_count (two_digits (t.year % 100) ++ (two_digits t.month ++ (two_digits t.day ++ ((two_digits t.hour ++ (two_digits t.minute ++ two_digits t.second)) ++ zone)))) ≡ 12
unfolding dated
twelve_digits t zone is n =
    let b = bounds_of t is in
    (date_checked t ((two_digits t.hour ++ (two_digits t.minute ++ two_digits t.second)) ++ zone) is).1
    ∙ ap (λ k. 6 + k) (count_chunk t.hour (two_digits t.minute ++ (two_digits t.second ++ zone)) (omega (arith, b.hour))
    ∙ ap (λ k. 2 + k) (count_chunk t.minute (two_digits t.second ++ zone) (omega (arith, b.minute)) ∙ ap (λ k. 2 + k) (count_chunk t.second zone (omega (arith, b.second)) ∙ ap (λ k. 2 + k) n)))

pub year_back_utc : (t : DateTime) → is_utc_time t ≡ true → utc_year ((48 + t.year % 100 / 10) % 16 * 10 + (48 + t.year % 100 % 10) % 16) ≡ t.year
year_back_utc t is =
    let u = and_parts (nat_le 1950 t.year) (nat_lt t.year 2050 && is_date_time t) is in
    let v = and_parts (nat_lt t.year 2050) (is_date_time t) u.1 in
    ap utc_year (two_back (t.year % 100) (omega arith)) ∙ same_year t.year (leb-true 1950 t.year u.0) (ltb-true t.year 2050 v.0)

minutes_checked : (t : DateTime) (zone : List ℕ) → is_utc_time t ≡ true → IsChecked zone → Checked (dated t ((two_digits t.hour ++ two_digits t.minute) ++ zone))
unfolding dated Checked
minutes_checked t zone is z =
    let b = bounds_of t is in
    let os = dated t ((two_digits t.hour ++ two_digits t.minute) ++ zone) in
    let d = date_checked t ((two_digits t.hour ++ two_digits t.minute) ++ zone) is in
    let count : digit_count os ≡ 10 = d.1 ∙ ap (λ k. 6 + k) (count_chunk t.hour (two_digits t.minute ++ zone) (omega (arith, b.hour)) ∙ ap (λ k. 2 + k) (count_chunk t.minute zone (omega (arith, b.minute)) ∙ ap (λ k. 2 + k) z.none)) in (
      subst (λ n. (((n == 10) || (n == 12)) && (is_z (drop n os) || is_offset 4 (drop n os))) ≡ true) (sym count) z.form,
      both_true d.0 (subst (λ n. (exists_time (n - 6) 6 os && exists_offset (drop n os)) ≡ true) (sym count)
          (both_true (both_true (small_back t.hour 24 b.hour (omega arith)) (both_true (small_back t.minute 60 b.minute (omega arith)) refl)) z.there)),
    )

seconds_checked : (t : DateTime) (zone : List ℕ) → is_utc_time t ≡ true → IsChecked zone → Checked (dated t ((two_digits t.hour ++ (two_digits t.minute ++ two_digits t.second)) ++ zone))
unfolding dated Checked
seconds_checked t zone is z =
    let b = bounds_of t is in
    let os = dated t ((two_digits t.hour ++ (two_digits t.minute ++ two_digits t.second)) ++ zone) in
    let d = date_checked t ((two_digits t.hour ++ (two_digits t.minute ++ two_digits t.second)) ++ zone) is in
    let count : digit_count os ≡ 12 = d.1 ∙ ap (λ k. 6 + k) (count_chunk t.hour (two_digits t.minute ++ (two_digits t.second ++ zone)) (omega (arith, b.hour))
    ∙ ap (λ k. 2 + k) (count_chunk t.minute (two_digits t.second ++ zone) (omega (arith, b.minute)) ∙ ap (λ k. 2 + k) (count_chunk t.second zone (omega (arith, b.second)) ∙ ap (λ k. 2 + k) z.none))) in (
      subst (λ n. (((n == 10) || (n == 12)) && (is_z (drop n os) || is_offset 4 (drop n os))) ≡ true) (sym count) z.form,
      both_true d.0 (subst (λ n. (exists_time (n - 6) 6 os && exists_offset (drop n os)) ≡ true) (sym count)
          (both_true (both_true (small_back t.hour 24 b.hour (omega arith)) (both_true (small_back t.minute 60 b.minute (omega arith)) (small_back t.second 60 b.second (omega arith)))) z.there)),
    )

clock_checked : (t : DateTime) {unit : ℕ} {clock : List ℕ} (zone : List ℕ) → is_utc_time t ≡ true → IsChecked zone → unit ≤ 60 → IsClock t unit clock → Checked (dated t (clock ++ zone))
clock_checked t zone is z whole (hours m s) = absurd (omega (arith, whole))
clock_checked t zone is z whole (minutes s) = minutes_checked t zone is z
clock_checked t zone is z whole seconds = seconds_checked t zone is z

utc_checked : (os : List ℕ) → Written os → Checked os
unfolding Written dated
utc_checked os (t, d, w) = subst Checked (sym w.spelled) (clock_checked t w.zone w.exists (zone_checked w.end) w.whole w.of_day)

pub utc_times_are_written : UtcTimesAreWritten
unfolding Written Checked
utc_times_are_written octets = (λ is. utc_written octets (is.0 refl) (is.1.0 refl), λ w. in_ber (utc_checked octets w))
  where
    in_ber : Checked octets → IsContents Ber type.UtcTime octets
    in_ber both = (λ _. both.0, (λ _. both.1, (λ e. absurd (cc), (λ e. absurd (cc), tt))))
