-- Zones of times as they are written, and as they are checked; and dates.
use Rattle.std.proofs.Common.{◌≡◌, ◌⊎◌, inl, inr, ℕ, ℤ, Bool, true, false, ◌+◌, ◌*◌, ◌/◌, ◌%◌, ◌<◌, ◌≤◌, ◌==◌, ◌&&◌, ◌||◌, List, [], ◌∷◌, ◌++◌, length, drop, refl, sym, subst, ap, ◌∙◌, nat_lt, nat_le, slice_index_or, pos, ⊎_elim, append-nil, arith}
use Rattle.std.specs.Prelude.{◌-ℤ◌, if◌then◌else◌}
use Rattle.std.proofs.lemmas.Bool.{and_parts, lt-ltb, ltb-true, eq-eqb, eqb-true, le-ltb, cases_lt}
use Rattle.std.proofs.lemmas.List.{length-drop}
use Rattle.std.specs.Cmp.Derive.{both_true}
use Rattle.schema_rules.proofs.TimeFormLemmas.{digit_at, digit_bounds, two_below, chunk, count_chunk, z_is}
use Rattle.der_asn1.specs.declared.times.date_time.DateTime.{DateTime}
use Rattle.schema_rules.specs.Digits.{digit_count, are_digits}
use Rattle.der_asn1.specs.Times.{two_at, two_digits, utc_year, is_date_time, days_of}
use Rattle.schema_rules.specs.WrittenTime.{IsZone, utc, ahead, behind}
use Rattle.schema_rules.specs.Zone.{is_z, is_offset, exists_offset, exists_date}

-- one of two tests holds
pub either : (a b : Bool) → (a || b) ≡ true → (a ≡ true) ⊎ (b ≡ true)
either true b e = inl refl
either false b e = inr e

pub either_true : (a b : Bool) → (a ≡ true) ⊎ (b ≡ true) → (a || b) ≡ true
either_true true b e = refl
either_true false b (inl e) = absurd (cc)
either_true false b (inr e) = e

-- the number of two digits is below 100
pub two_small : (os : List ℕ) (i : ℕ) → i + 1 < digit_count os → two_at i os < 100
two_small os i h =
    let a = digit_bounds (slice_index_or os i 0) (digit_at os i (omega (arith, h))) in
    let b = digit_bounds (slice_index_or os (i + 1) 0) (digit_at os (i + 1) h) in
    two_below (slice_index_or os i 0) (slice_index_or os (i + 1) 0) a.0 a.1 b.0 b.1

pub none_left : (xs : List ℕ) → length xs ≡ 0 → xs ≡ []
none_left [] e = refl
none_left (x ∷ xs) e = absurd (omega (arith, e))

-- four digits are those of two numbers
pub four_digits : (ds : List ℕ) → are_digits 4 ds ≡ true → two_digits (two_at 0 ds) ++ two_digits (two_at 2 ds) ≡ ds
four_digits ds h =
    let p = and_parts (length ds == 4) (digit_count ds == 4) h in
    let l = eqb-true (length ds) 4 p.0 in
    let c = eqb-true (digit_count ds) 4 p.1 in
    let k = length-drop 4 ds in
    let end = none_left (drop 4 ds) (omega (arith, k, l)) in
    let last : two_digits (two_at 2 ds) ++ [] ≡ drop 2 ds = chunk ds [] 2 (omega (arith, c)) end in
    chunk ds (two_digits (two_at 2 ds)) 0 (omega (arith, c)) (sym (sym (append-nil (two_digits (two_at 2 ds))) ∙ last))

-- a difference of four digits
pub offset_written : (o : ℕ) (ds : List ℕ) → ((o == 43) || (o == 45)) ≡ true → are_digits 4 ds ≡ true → exists_offset (o ∷ ds) ≡ true → (d : ℤ) × IsZone d (o ∷ ds)
offset_written o ds sign digits there = of (either (o == 43) (o == 45) sign)
  where
    l : length ds ≡ 4
    l = eqb-true (length ds) 4 (and_parts (length ds == 4) (digit_count ds == 4) digits).0

    h : ℕ
    h = two_at 0 ds

    m : ℕ
    m = two_at 2 ds

    bounds : (nat_lt h 24 && (nat_lt (length (o ∷ ds)) 5 || nat_lt m 60)) ≡ true
    bounds = ⊎_elim (λ short. absurd (omega (arith, ltb-true (length (o ∷ ds)) 3 short, l))) (λ e. e) (either (nat_lt (length (o ∷ ds)) 3) (nat_lt h 24 && (nat_lt (length (o ∷ ds)) 5 || nat_lt m 60)) there)

    parts : (nat_lt h 24 ≡ true) × ((nat_lt (length (o ∷ ds)) 5 || nat_lt m 60) ≡ true)
    parts = and_parts (nat_lt h 24) (nat_lt (length (o ∷ ds)) 5 || nat_lt m 60) bounds

    hour : h < 24
    hour = ltb-true h 24 parts.0

    minute : m < 60
    minute = ⊎_elim (λ short. absurd (omega (arith, ltb-true (length (o ∷ ds)) 5 short, l))) (λ e. ltb-true m 60 e) (either (nat_lt (length (o ∷ ds)) 5) (nat_lt m 60) parts.1)

    of : ((o == 43) ≡ true) ⊎ ((o == 45) ≡ true) → (d : ℤ) × IsZone d (o ∷ ds)
    of (inl e) = (pos (3600 * h + 60 * m), subst (λ k. IsZone (pos (3600 * h + 60 * m)) (k ∷ ds)) (sym (eqb-true o 43 e)) (subst (λ l. IsZone (pos (3600 * h + 60 * m)) (43 ∷ l)) (four_digits ds digits) (ahead h m hour minute)))
    of (inr e) = (pos 0 -ℤ pos (3600 * h + 60 * m), subst (λ k. IsZone (pos 0 -ℤ pos (3600 * h + 60 * m)) (k ∷ ds)) (sym (eqb-true o 45 e)) (subst (λ l. IsZone (pos 0 -ℤ pos (3600 * h + 60 * m)) (45 ∷ l)) (four_digits ds digits) (behind h m hour minute)))

pub zone_written : (zone : List ℕ) → (is_z zone || is_offset 4 zone) ≡ true → exists_offset zone ≡ true → (d : ℤ) × IsZone d zone
zone_written zone form there = of (either (is_z zone) (is_offset 4 zone) form)
  where
    offset : (l : List ℕ) → is_offset 4 l ≡ true → exists_offset l ≡ true → (d : ℤ) × IsZone d l
    offset [] e there = absurd (cc)
    offset (o ∷ ds) e there = let p = and_parts ((o == 43) || (o == 45)) (are_digits 4 ds) e in offset_written o ds p.0 p.1 there

    of : (is_z zone ≡ true) ⊎ (is_offset 4 zone ≡ true) → (d : ℤ) × IsZone d zone
    of (inl e) = (pos 0, subst (IsZone (pos 0)) (sym (z_is zone e)) utc)
    of (inr e) = offset zone e there

-- a date and a time of day that exist
pub valid : (y mo d h mi s : ℕ) → y < 10000 → exists_date y mo d ≡ true → h < 24 → mi < 60 → s < 60
    → is_date_time (record { year = y; month = mo; day = d; hour = h; minute = mi; second = s }) ≡ true
valid y mo d h mi s year date hour minute second =
    let p = and_parts (nat_lt 0 mo) (nat_lt mo 13 && (nat_lt 0 d && nat_le d (days_of y mo))) date in
    let q = and_parts (nat_lt mo 13) (nat_lt 0 d && nat_le d (days_of y mo)) p.1 in
    let r = and_parts (nat_lt 0 d) (nat_le d (days_of y mo)) q.1 in
    both_true (lt-ltb y 10000 year) (both_true p.0 (both_true q.0 (both_true r.0 (both_true r.1
    (both_true (lt-ltb h 24 hour) (both_true (lt-ltb mi 60 minute) (lt-ltb s 60 second)))))))

-- the number of two digits, whatever comes before them and after
pub two_back : (n : ℕ) → n < 100 → (48 + n / 10) % 16 * 10 + (48 + n % 10) % 16 ≡ n
two_back n h = omega (arith, h)

-- what is checked of a zone
pub record IsChecked (zone : List ℕ) : Type 0 where
  pub none : digit_count zone ≡ 0
  pub form : (is_z zone || is_offset 4 zone) ≡ true
  pub there : exists_offset zone ≡ true

pub four_checked : (h m : ℕ) → h < 24 → m < 60 → (are_digits 4 (two_digits h ++ two_digits m) ≡ true) × ((nat_lt ((48 + h / 10) % 16 * 10 + (48 + h % 10) % 16) 24 && nat_lt ((48 + m / 10) % 16 * 10 + (48 + m % 10) % 16) 60) ≡ true)
four_checked h m hour minute =
    let c = count_chunk h (two_digits m) (omega (arith, hour)) ∙ ap (λ k. 2 + k) (count_chunk m [] (omega (arith, minute))) in (
      eq-eqb (digit_count (two_digits h ++ two_digits m)) 4 c,
      both_true (lt-ltb ((48 + h / 10) % 16 * 10 + (48 + h % 10) % 16) 24 (omega (arith, hour))) (lt-ltb ((48 + m / 10) % 16 * 10 + (48 + m % 10) % 16) 60 (omega (arith, minute))),
    )

pub zone_checked : {d : ℤ} {zone : List ℕ} → IsZone d zone → IsChecked zone
zone_checked utc = record { none = refl; form = refl; there = refl }
zone_checked (ahead h m hour minute) = let f = four_checked h m hour minute in record { none = refl; form = f.0; there = f.1 }
zone_checked (behind h m hour minute) = let f = four_checked h m hour minute in record { none = refl; form = f.0; there = f.1 }

-- the date of a date and time that exist
pub date_of : (t : DateTime) → is_date_time t ≡ true → exists_date t.year t.month t.day ≡ true
date_of t is =
    let last = nat_le t.day (days_of t.year t.month) in
    let time = nat_lt t.hour 24 && (nat_lt t.minute 60 && nat_lt t.second 60) in
    let y = and_parts (nat_lt t.year 10000) (nat_lt 0 t.month && (nat_lt t.month 13 && (nat_lt 0 t.day && (last && time)))) is in
    let a = and_parts (nat_lt 0 t.month) (nat_lt t.month 13 && (nat_lt 0 t.day && (last && time))) y.1 in
    let b = and_parts (nat_lt t.month 13) (nat_lt 0 t.day && (last && time)) a.1 in
    let c = and_parts (nat_lt 0 t.day) (last && time) b.1 in
    let d = and_parts last time c.1 in
    both_true a.0 (both_true b.0 (both_true c.0 d.0))

pub date_same : (y z m n d e : ℕ) → y ≡ z → m ≡ n → d ≡ e → exists_date z n e ≡ true → exists_date y m d ≡ true
date_same y z m n d e p q r is = subst (λ k. exists_date k m d ≡ true) (sym p) (subst (λ k. exists_date z k d ≡ true) (sym q) (subst (λ k. exists_date z n k ≡ true) (sym r) is))

pub same_year : (y : ℕ) → 1950 ≤ y → y < 2050 → utc_year (y % 100) ≡ y
same_year y low high =
    ⊎_elim (λ l. ap (λ b. if b then 2000 + y % 100 else 1900 + y % 100) (lt-ltb (y % 100) 50 l) ∙ omega (arith, low, high, l))
    (λ g. ap (λ b. if b then 2000 + y % 100 else 1900 + y % 100) (le-ltb (y % 100) 50 g) ∙ omega (arith, low, high, g)) (cases_lt (y % 100) 50)

pub small_back : (n most : ℕ) → n < most → most ≤ 60 → nat_lt ((48 + n / 10) % 16 * 10 + (48 + n % 10) % 16) most ≡ true
small_back n most h few = lt-ltb ((48 + n / 10) % 16 * 10 + (48 + n % 10) % 16) most (omega (arith, h, few, two_back n (omega (arith, h, few))))
