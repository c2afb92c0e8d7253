-- GeneralizedTimes that are written as X.680 says are those that keep the rules of their form.
use Rattle.std.proofs.Common.{◌≡◌, ◌⊎◌, inl, inr, ℕ, ℤ, true, ◌+◌, ◌*◌, ◌-◌, ◌/◌, ◌%◌, ◌<◌, ◌≤◌, ◌==◌, ◌&&◌, ◌||◌, List, ◌++◌, drop, refl, sym, subst, ap, ◌∙◌, nat_lt, ⊎_elim, Option, arith}
use Rattle.std.proofs.lemmas.Bool.{and_parts, ltb-true, eqb-true}
use Rattle.std.specs.Cmp.Derive.{both_true}
use Rattle.schema_rules.proofs.TimeFormLemmas.{chunk, count_chunk}
use Rattle.der_asn1.proofs.TimeLemmas.{bounded}
use Rattle.der_asn1.specs.declared.times.date_time.DateTime.{DateTime}
use Rattle.schema_rules.specs.Digits.{digit_count}
use Rattle.schema_rules.specs.GeneralizedTime.{generalized_time_form, generalized_time_exists}
use Rattle.der_asn1.specs.Times.{two_at, two_digits, is_date_time}
use Rattle.schema_rules.specs.WrittenTime.{IsClock, hours, minutes, seconds, IsGeneralizedTime}
use Rattle.schema_rules.specs.Zone.{exists_offset, exists_date, exists_time}
use Rattle.schema_rules.proofs.WrittenZoneLemmas.{either, two_small, valid, two_back, date_of, date_same, small_back}
use Rattle.schema_rules.proofs.WrittenTailLemmas.{tail_zone, tail_form, IsTail, tail_written, IsCheckedTail, tail_checked}
use Rattle.schema_rules.specs.Laws.{GeneralizedTimesAreWritten}
use Rattle.schema_rules.specs.Contents.{IsContents}
use Rattle.ber.specs.declared.universal.Universal.TheVariants as type
use Rattle.der_base.specs.declared.encoding_rules.EncodingRules.TheVariants.{Ber}

WrittenAny : List ℕ → Type 0
WrittenAny os = (t : DateTime) × (unit : ℕ) × (fraction : List ℕ) × (d : Option ℤ) × IsGeneralizedTime os t unit fraction d

year_at : List ℕ → ℕ
year_at os = two_at 0 os * 100 + two_at 2 os

year_back : (os rest : List ℕ) → 10 ≤ digit_count os → rest ≡ drop 8 os
    → os ≡ two_digits (year_at os / 100) ++ (two_digits (year_at os % 100) ++ (two_digits (two_at 4 os) ++ (two_digits (two_at 6 os) ++ rest)))
unfolding year_at
year_back os rest c e =
    let century = two_small os 0 (omega (arith, c)) in
    let small = two_small os 2 (omega (arith, c)) in
    let e6 = chunk os rest 6 (omega (arith, c)) (sym e) in
    let e4 = chunk os _ 4 (omega (arith, c)) (sym e6) in
    let e2 = chunk os _ 2 (omega (arith, c)) (sym e4) in
    let after = two_digits (two_at 4 os) ++ (two_digits (two_at 6 os) ++ rest) in
    let e0 : two_digits (two_at 0 os) ++ (two_digits (two_at 2 os) ++ after) ≡ os = chunk os _ 0 (omega (arith, c)) (sym e2) in
    let first : (two_at 0 os * 100 + two_at 2 os) / 100 ≡ two_at 0 os = omega (arith, century, small) in
    let last : (two_at 0 os * 100 + two_at 2 os) % 100 ≡ two_at 2 os = omega (arith, century, small) in
    sym (ap (λ n. two_digits n ++ (two_digits ((two_at 0 os * 100 + two_at 2 os) % 100) ++ after)) first ∙ ap (λ n. two_digits (two_at 0 os) ++ (two_digits n ++ after)) last ∙ e0)

-- what is read of a GeneralizedTime with so many digits
record IsReadAny (os : List ℕ) (m s : ℕ) : Type 0 where
  date : exists_date (year_at os) (two_at 4 os) (two_at 6 os) ≡ true
  hour : two_at 8 os < 24
  minute : m < 60
  second : s < 60

any_read : List ℕ → ℕ → ℕ → DateTime
any_read os m s = record { year = year_at os; month = two_at 4 os; day = two_at 6 os; hour = two_at 8 os; minute = m; second = s }

any_valid : (os : List ℕ) (m s : ℕ) → 10 ≤ digit_count os → IsReadAny os m s → is_date_time (any_read os m s) ≡ true
unfolding any_read year_at
any_valid os m s c r =
    let century = two_small os 0 (omega (arith, c)) in
    let small = two_small os 2 (omega (arith, c)) in
    valid (two_at 0 os * 100 + two_at 2 os) (two_at 4 os) (two_at 6 os) (two_at 8 os) m s (omega (arith, century, small)) r.date r.hour r.minute r.second

hours_any : (os : List ℕ) → digit_count os ≡ 10 → IsReadAny os 0 0 → IsTail (drop 10 os) → WrittenAny os
unfolding WrittenAny any_read year_at
hours_any os c r z =
    let e8 = chunk os _ 8 (omega (arith, c)) z.same in (
      any_read os 0 0,
      3600,
      z.fraction,
      z.difference,
      record {
        exists = any_valid os 0 0 (omega (arith, c)) r;
        clock = two_digits (two_at 8 os);
        marked = z.marked;
        zone = z.zone;
        of_day = hours refl refl;
        parts = z.parts;
        end = z.end;
        spelled = year_back os _ (omega (arith, c)) e8;
      },
    )

minutes_any : (os : List ℕ) → digit_count os ≡ 12 → IsReadAny os (two_at 10 os) 0 → IsTail (drop 12 os) → WrittenAny os
unfolding WrittenAny any_read year_at
minutes_any os c r z =
    let e10 = chunk os _ 10 (omega (arith, c)) z.same in
    let e8 = chunk os _ 8 (omega (arith, c)) (sym e10) in (
      any_read os (two_at 10 os) 0,
      60,
      z.fraction,
      z.difference,
      record {
        exists = any_valid os (two_at 10 os) 0 (omega (arith, c)) r;
        clock = two_digits (two_at 8 os) ++ two_digits (two_at 10 os);
        marked = z.marked;
        zone = z.zone;
        of_day = minutes refl;
        parts = z.parts;
        end = z.end;
        spelled = year_back os _ (omega (arith, c)) e8;
      },
    )

seconds_any : (os : List ℕ) → digit_count os ≡ 14 → IsReadAny os (two_at 10 os) (two_at 12 os) → IsTail (drop 14 os) → WrittenAny os
unfolding WrittenAny any_read year_at
seconds_any os c r z =
    let e12 = chunk os _ 12 (omega (arith, c)) z.same in
    let e10 = chunk os _ 10 (omega (arith, c)) (sym e12) in
    let e8 = chunk os _ 8 (omega (arith, c)) (sym e10) in (
      any_read os (two_at 10 os) (two_at 12 os),
      1,
      z.fraction,
      z.difference,
      record {
        exists = any_valid os (two_at 10 os) (two_at 12 os) (omega (arith, c)) r;
        clock = two_digits (two_at 8 os) ++ (two_digits (two_at 10 os) ++ two_digits (two_at 12 os));
        marked = z.marked;
        zone = z.zone;
        of_day = seconds;
        parts = z.parts;
        end = z.end;
        spelled = year_back os _ (omega (arith, c)) e8;
      },
    )

any_written : (os : List ℕ) → generalized_time_form os ≡ true → generalized_time_exists os ≡ true → WrittenAny os
unfolding tail_form tail_zone year_at
any_written os form there = of10 (either (digit_count os == 10) ((digit_count os == 12) || (digit_count os == 14)) p.0)
  where
    n : ℕ
    n = digit_count os

    p : (((n == 10) || ((n == 12) || (n == 14))) ≡ true) × (tail_form (drop n os) ≡ true)
    p = and_parts ((n == 10) || ((n == 12) || (n == 14))) (tail_form (drop n os)) form

    q : (exists_date (year_at os) (two_at 4 os) (two_at 6 os) ≡ true) × ((exists_time (n - 8) 8 os && exists_offset (tail_zone (drop n os))) ≡ true)
    q = and_parts (exists_date (year_at os) (two_at 4 os) (two_at 6 os)) (exists_time (n - 8) 8 os && exists_offset (tail_zone (drop n os))) there

    r : (exists_time (n - 8) 8 os ≡ true) × (exists_offset (tail_zone (drop n os)) ≡ true)
    r = and_parts (exists_time (n - 8) 8 os) (exists_offset (tail_zone (drop n os))) q.1

    tail : IsTail (drop n os)
    tail = tail_written (drop n os) p.1 r.1

    of14 : n ≡ 14 → WrittenAny os
    of14 c =
        let time = subst (λ k. exists_time (k - 8) 8 os ≡ true) c r.0 in
        let h = and_parts (nat_lt (two_at 8 os) 24) (nat_lt (two_at 10 os) 60 && nat_lt (two_at 12 os) 60) time in
        let m = and_parts (nat_lt (two_at 10 os) 60) (nat_lt (two_at 12 os) 60) h.1 in
        seconds_any os c (record { date = q.0; hour = ltb-true (two_at 8 os) 24 h.0; minute = ltb-true (two_at 10 os) 60 m.0; second = ltb-true (two_at 12 os) 60 m.1 }) (subst (λ k. IsTail (drop k os)) c tail)

    of12 : n ≡ 12 → WrittenAny os
    of12 c =
        let time = subst (λ k. exists_time (k - 8) 8 os ≡ true) c r.0 in
        let h = and_parts (nat_lt (two_at 8 os) 24) (nat_lt (two_at 10 os) 60 && true) time in
        let m = and_parts (nat_lt (two_at 10 os) 60) true h.1 in
        minutes_any os c (record { date = q.0; hour = ltb-true (two_at 8 os) 24 h.0; minute = ltb-true (two_at 10 os) 60 m.0; second = omega arith }) (subst (λ k. IsTail (drop k os)) c tail)

    of10 : ((n == 10) ≡ true) ⊎ (((n == 12) || (n == 14)) ≡ true) → WrittenAny os
    of10 (inl e) =
        let c = eqb-true n 10 e in
        let time = subst (λ k. exists_time (k - 8) 8 os ≡ true) c r.0 in
        let h = and_parts (nat_lt (two_at 8 os) 24) true time in
        hours_any os c (record { date = q.0; hour = ltb-true (two_at 8 os) 24 h.0; minute = omega arith; second = omega arith }) (subst (λ k. IsTail (drop k os)) c tail)
    of10 (inr e) = ⊎_elim (λ f. of12 (eqb-true n 12 f)) (λ f. of14 (eqb-true n 14 f)) (either (n == 12) (n == 14) e)

four_back : (y : ℕ) → y < 10000
    → ((48 + y / 100 / 10) % 16 * 10 + (48 + y / 100 % 10) % 16) * 100 + ((48 + y % 100 / 10) % 16 * 10 + (48 + y % 100 % 10) % 16) ≡ y
four_back y few =
    let high : (48 + y / 100 / 10) % 16 * 10 + (48 + y / 100 % 10) % 16 ≡ y / 100 = two_back (y / 100) (omega (arith, few)) in
    let low : (48 + y % 100 / 10) % 16 * 10 + (48 + y % 100 % 10) % 16 ≡ y % 100 = two_back (y % 100) (omega arith) in
    ap (λ k. k * 100 + ((48 + y % 100 / 10) % 16 * 10 + (48 + y % 100 % 10) % 16)) high ∙ ap (λ k. y / 100 * 100 + k) low ∙ omega arith

dated_any : DateTime → List ℕ → List ℕ
dated_any t rest = two_digits (t.year / 100) ++ (two_digits (t.year % 100) ++ (two_digits t.month ++ (two_digits t.day ++ rest)))

any_date_checked : (t : DateTime) (rest : List ℕ) → is_date_time t ≡ true
    → (exists_date (year_at (dated_any t rest)) (two_at 4 (dated_any t rest)) (two_at 6 (dated_any t rest)) ≡ true) × (digit_count (dated_any t rest) ≡ 8 + digit_count rest)
unfolding dated_any year_at
any_date_checked t rest is =
    let b = bounded t is in (
      date_same _ t.year _ t.month _ t.day (four_back t.year b.year) (two_back t.month (omega (arith, b.month))) (two_back t.day (omega (arith, b.day))) (date_of t is),
      count_chunk (t.year / 100) (two_digits (t.year % 100) ++ (two_digits t.month ++ (two_digits t.day ++ rest))) (omega (arith, b.year))
          ∙ ap (λ k. 2 + k) (count_chunk (t.year % 100) (two_digits t.month ++ (two_digits t.day ++ rest)) (omega arith) ∙ ap (λ k. 2 + k) (count_chunk t.month (two_digits t.day ++ rest) (omega (arith, b.month))
          ∙ ap (λ k. 2 + k) (count_chunk t.day rest (omega (arith, b.day))))) ∙ omega arith,
    )

CheckedAny : List ℕ → Type 0
CheckedAny os = (generalized_time_form os ≡ true) × (generalized_time_exists os ≡ true)

-- what is checked of a GeneralizedTime with so many digits
checked_at : (os r : List ℕ) (n : ℕ) → digit_count os ≡ n → drop n os ≡ r → ((n == 10) || ((n == 12) || (n == 14))) ≡ true
    → exists_date (year_at os) (two_at 4 os) (two_at 6 os) ≡ true → exists_time (n - 8) 8 os ≡ true → IsCheckedTail r → CheckedAny os
unfolding CheckedAny tail_form tail_zone year_at
checked_at os r n count end size date time tail = (
  subst (λ k. (((k == 10) || ((k == 12) || (k == 14))) && tail_form (drop k os)) ≡ true) (sym count) (both_true size (subst (λ l. tail_form l ≡ true) (sym end) tail.form)),
  both_true date (subst (λ k. (exists_time (k - 8) 8 os && exists_offset (tail_zone (drop k os))) ≡ true) (sym count) (both_true time (subst (λ l. exists_offset (tail_zone l) ≡ true) (sym end) tail.there))),
)

any_clock_checked : (t : DateTime) {unit : ℕ} {clock : List ℕ} (r : List ℕ) → is_date_time t ≡ true → IsCheckedTail r → IsClock t unit clock → CheckedAny (dated_any t (clock ++ r))
unfolding dated_any
any_clock_checked t r is tail (hours m s) =
    let b = bounded t is in
    let d = any_date_checked t (two_digits t.hour ++ r) is in
    checked_at (dated_any t (two_digits t.hour ++ r)) r 10 (d.1 ∙ ap (λ k. 8 + k) (count_chunk t.hour r (omega (arith, b.hour)) ∙ ap (λ k. 2 + k) tail.none)) refl refl d.0
    (both_true (small_back t.hour 24 b.hour (omega arith)) refl) tail
any_clock_checked t r is tail (minutes s) =
    let b = bounded t is in
    let d = any_date_checked t ((two_digits t.hour ++ two_digits t.minute) ++ r) is in
    checked_at (dated_any t ((two_digits t.hour ++ two_digits t.minute) ++ r)) r 12
    (d.1 ∙ ap (λ k. 8 + k) (count_chunk t.hour (two_digits t.minute ++ r) (omega (arith, b.hour)) ∙ ap (λ k. 2 + k) (count_chunk t.minute r (omega (arith, b.minute)) ∙ ap (λ k. 2 + k) tail.none))) refl refl d.0
    (both_true (small_back t.hour 24 b.hour (omega arith)) (both_true (small_back t.minute 60 b.minute (omega arith)) refl)) tail
any_clock_checked t r is tail seconds =
    let b = bounded t is in
    let d = any_date_checked t ((two_digits t.hour ++ (two_digits t.minute ++ two_digits t.second)) ++ r) is in
    checked_at (dated_any t ((two_digits t.hour ++ (two_digits t.minute ++ two_digits t.second)) ++ r)) r 14
    (d.1 ∙ ap (λ k. 8 + k) (count_chunk t.hour (two_digits t.minute ++ (two_digits t.second ++ r)) (omega (arith, b.hour)) ∙ ap (λ k. 2 + k) (count_chunk t.minute (two_digits t.second ++ r) (omega (arith, b.minute))
    ∙ ap (λ k. 2 + k) (count_chunk t.second r (omega (arith, b.second)) ∙ ap (λ k. 2 + k) tail.none)))) refl refl d.0
    (both_true (small_back t.hour 24 b.hour (omega arith)) (both_true (small_back t.minute 60 b.minute (omega arith)) (small_back t.second 60 b.second (omega arith)))) tail

any_checked : (os : List ℕ) → WrittenAny os → CheckedAny os
unfolding WrittenAny dated_any
any_checked os (t, unit, fraction, d, w) = subst CheckedAny (sym w.spelled) (any_clock_checked t (w.marked ++ w.zone) w.exists (tail_checked w.parts w.end) w.of_day)

pub generalized_times_are_written : GeneralizedTimesAreWritten
unfolding WrittenAny CheckedAny
generalized_times_are_written octets = (λ is. any_written octets (is.0 refl) (is.1.0 refl), λ w. in_ber (any_checked octets w))
  where
    in_ber : CheckedAny octets → IsContents Ber type.GeneralizedTime octets
    in_ber both = (λ _. both.0, (λ _. both.1, (λ e. absurd (cc), (λ e. absurd (cc), (λ e. absurd (cc), (λ e. absurd (cc), tt))))))
