-- Lemmas on reading and writing times.
use Rattle.std.proofs.Common.{◌≡◌, ℕ, Bool, true, ◌+◌, ◌*◌, ◌/◌, ◌%◌, ◌<◌, ◌≤◌, ◌==◌, ◌&&◌, List, [], ◌∷◌, refl, ap, ◌∙◌, nat_le, if◌then◌else◌, ◌||◌, ⊎_elim, arith}
use Rattle.std.proofs.lemmas.Bool.{and_parts, ltb-true, leb-true, eq-eqb, cond_both, cases_lt, lt-ltb, le-ltb}
use Rattle.std.specs.Str.{bytes_eq}
use Rattle.der_asn1.specs.declared.times.date_time.DateTime.{DateTime}
use Rattle.der_asn1.specs.Times.{is_date_time, is_utc_time, is_leap_year, days_of, generalized_octets, utc_octets, generalized_reading, utc_reading, generalized_form, utc_form, utc_year}

same_number : (n : ℕ) → (n == n) ≡ true
same_number n = eq-eqb n n refl

same_octets : (octets : List ℕ) → bytes_eq octets octets ≡ true
same_octets [] = refl
same_octets (o ∷ os) = rw (same_number o) (same_octets os)

-- the checks of contents hold together
pub all_hold : (n size : ℕ) (valid same : Bool) → n ≡ size → valid ≡ true → same ≡ true → ((n == size) && (valid && same)) ≡ true
all_hold n size valid same e v s = rw (e, v, s, same_number size) refl

-- bounds of the fields of a valid time
pub record IsBounded (t : DateTime) : Type 0 where
  pub year : t.year < 10000
  pub month : t.month < 13
  pub day : t.day ≤ 31
  pub hour : t.hour < 24
  pub minute : t.minute < 60
  pub second : t.second < 60

most_days : (year month : ℕ) → days_of year month ≤ 31
most_days year month =
    cond_both (month == 2) (if is_leap_year year then 29 else 28) (if (month == 4) || (month == 6) || (month == 9) || (month == 11) then 30 else 31) (λ d. d ≤ 31)
    (λ _. cond_both (is_leap_year year) 29 28 (λ d. d ≤ 31) (λ _. omega arith) (λ _. omega arith))
    (λ _. cond_both ((month == 4) || (month == 6) || (month == 9) || (month == 11)) 30 31 (λ d. d ≤ 31) (λ _. omega arith) (λ _. omega arith))

few_days : (day year month : ℕ) → nat_le day (days_of year month) ≡ true → day ≤ 31
few_days day year month h = omega (arith, leb-true day (days_of year month) h, most_days year month)

pub bounded : (t : DateTime) → is_date_time t ≡ true → IsBounded t
bounded t h =
    let a = and_parts _ _ h in
    let b = and_parts _ _ a.1 in
    let d = and_parts _ _ b.1 in
    let e = and_parts _ _ d.1 in
    let f = and_parts _ _ e.1 in
    let g = and_parts _ _ f.1 in
    let i = and_parts _ _ g.1 in
    record {
      year = ltb-true t.year 10000 a.0;
      month = ltb-true t.month 13 d.0;
      day = few_days t.day t.year t.month f.0;
      hour = ltb-true t.hour 24 g.0;
      minute = ltb-true t.minute 60 i.0;
      second = ltb-true t.second 60 i.1;
    }

-- two decimal digits determine the number
two_digits_value : (n : ℕ) → n < 100 → (48 + n / 10) % 16 * 10 + (48 + n % 10) % 16 ≡ n
two_digits_value n h = omega (arith, h)

last_two_digits_value : (n : ℕ) → (48 + n % 100 / 10) % 16 * 10 + (48 + n % 100 % 10) % 16 ≡ n % 100
last_two_digits_value n = two_digits_value (n % 100) (omega arith)

same_time : (t : DateTime) (y o d h m s : ℕ) → y ≡ t.year → o ≡ t.month → d ≡ t.day → h ≡ t.hour → m ≡ t.minute → s ≡ t.second
    → record { year = y; month = o; day = d; hour = h; minute = m; second = s } ≡ t
same_time t y o d h m s ey eo ed eh em es = rw (ey, eo, ed, eh, em, es) refl

-- reading the contents of a time gives the time
pub generalized_time_round_trip : (t : DateTime) → is_date_time t ≡ true → generalized_reading (generalized_octets t) ≡ t
generalized_time_round_trip t is =
    let b = bounded t is in
    same_time t _ _ _ _ _ _ (omega (arith, b.year)) (two_digits_value t.month (omega (arith, b.month))) (two_digits_value t.day (omega (arith, b.day))) (two_digits_value t.hour (omega (arith, b.hour)))
    (two_digits_value t.minute (omega (arith, b.minute))) (two_digits_value t.second (omega (arith, b.second)))

same_year : (y : ℕ) → 1950 ≤ y → y < 2050 → utc_year (y % 100) ≡ y
same_year y low high =
    ⊎_elim (λ l. ap (λ b. if b then 2000 + y % 100 else 1900 + y % 100) (lt-ltb (y % 100) 50 l) ∙ omega (arith, low, high, l))
    (λ g. ap (λ b. if b then 2000 + y % 100 else 1900 + y % 100) (le-ltb (y % 100) 50 g) ∙ omega (arith, low, high, g)) (cases_lt (y % 100) 50)

pub utc_time_round_trip : (t : DateTime) → is_utc_time t ≡ true → utc_reading (utc_octets t) ≡ t
utc_time_round_trip t is =
    let u = and_parts _ _ is in
    let v = and_parts _ _ u.1 in
    let b = bounded t v.1 in
    same_time t _ _ _ _ _ _ (ap utc_year (last_two_digits_value t.year) ∙ same_year t.year (leb-true 1950 t.year u.0) (ltb-true t.year 2050 v.0)) (two_digits_value t.month (omega (arith, b.month))) (two_digits_value t.day (omega (arith, b.day))) (two_digits_value t.hour (omega (arith, b.hour)))
    (two_digits_value t.minute (omega (arith, b.minute))) (two_digits_value t.second (omega (arith, b.second)))

-- the contents of a time are valid
pub generalized_formed : (t : DateTime) → is_date_time t ≡ true → generalized_form (generalized_octets t) ≡ true
generalized_formed t is =
    let reported = generalized_time_round_trip t is in
    all_hold 15 15 _ _ refl (ap is_date_time reported ∙ is) (ap (λ u. bytes_eq (generalized_octets u) (generalized_octets t)) reported ∙ same_octets (generalized_octets t))

pub utc_formed : (t : DateTime) → is_utc_time t ≡ true → utc_form (utc_octets t) ≡ true
utc_formed t is =
    let reported = utc_time_round_trip t is in
    let u = and_parts _ _ is in
    all_hold 13 13 _ _ refl (ap is_date_time reported ∙ (and_parts _ _ u.1).1) (ap (λ u. bytes_eq (utc_octets u) (utc_octets t)) reported ∙ same_octets (utc_octets t))
