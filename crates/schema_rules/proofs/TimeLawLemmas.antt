-- Times of twelve or fourteen digits and Z are those that `der_asn1` reads.
use Rattle.std.proofs.Common.{◌≡◌, ℕ, Bool, true, false, ◌+◌, ◌*◌, ◌/◌, ◌%◌, ◌<◌, ◌==◌, ◌&&◌, List, [], ◌∷◌, ◌++◌, length, drop, refl, sym, subst, ap, ◌∙◌, nat_lt, nat_le, slice_index_or, arith}
use Rattle.std.proofs.lemmas.Bool.{and_parts, lt-ltb, eq-eqb, eqb-true}
use Rattle.std.proofs.lemmas.List.{length-drop}
use Rattle.std.specs.Cmp.Derive.{both_true}
use Rattle.std.specs.Str.{bytes_eq}
use Rattle.schema_rules.proofs.TimeFormLemmas.{digit_at, digit_bounds, two_below, chunk, count_chunk, z_is, same_octets}
use Rattle.der_asn1.proofs.TimeLemmas.{bounded}
use Rattle.der_asn1.specs.declared.times.date_time.DateTime.{DateTime}
use Rattle.schema_rules.specs.Digits.{digit_count}
use Rattle.der_asn1.specs.Times.{two_at, two_digits, utc_year, is_date_time, days_of, time_octets, time_from, utc_form, utc_octets, utc_reading, generalized_form, generalized_octets, generalized_reading}
use Rattle.schema_rules.specs.Zone.{is_z, exists_date, exists_time}

-- the number of two digits before the first octet that is none is below 100
two_small : (os : List ℕ) (i : ℕ) → i + 1 < digit_count os → two_at i os < 100
two_small os i h =
    let a = digit_bounds (slice_index_or os i 0) (digit_at os i (omega (arith, h))) in
    let b = digit_bounds (slice_index_or os (i + 1) 0) (digit_at os (i + 1) h) in
    two_below (slice_index_or os i 0) (slice_index_or os (i + 1) 0) a.0 a.1 b.0 b.1

-- what holds of a date and of a time of day holds of both
regroup : (y a b c d h m s : Bool) → y ≡ true → (a && (b && (c && d))) ≡ true → (h && (m && s)) ≡ true
    → (y && (a && (b && (c && (d && (h && (m && s))))))) ≡ true
regroup y a b c d h m s e f g =
    let f1 = and_parts a (b && (c && d)) f in
    let f2 = and_parts b (c && d) f1.1 in
    let f3 = and_parts c d f2.1 in
    both_true e (both_true f1.0 (both_true f2.0 (both_true f3.0 (both_true f3.1 g))))

apart : (y a b c d h m s : Bool) → (y && (a && (b && (c && (d && (h && (m && s))))))) ≡ true
    → ((a && (b && (c && d))) ≡ true) × ((h && (m && s)) ≡ true)
apart y a b c d h m s e =
    let e1 = and_parts y (a && (b && (c && (d && (h && (m && s)))))) e in
    let e2 = and_parts a (b && (c && (d && (h && (m && s))))) e1.1 in
    let e3 = and_parts b (c && (d && (h && (m && s)))) e2.1 in
    let e4 = and_parts c (d && (h && (m && s))) e3.1 in
    let e5 = and_parts d (h && (m && s)) e4.1 in
    (both_true e2.0 (both_true e3.0 (both_true e4.0 e5.0)), e5.1)

-- the date and time that are read from a place on exist exactly if these do
valid_from : (year i : ℕ) (os : List ℕ) → year < 10000 → exists_date year (two_at i os) (two_at (i + 2) os) ≡ true
    → (nat_lt (two_at (i + 4) os) 24 && (nat_lt (two_at (i + 6) os) 60 && nat_lt (two_at (i + 8) os) 60)) ≡ true → is_date_time (time_from year i os) ≡ true
valid_from year i os y d t =
    regroup (nat_lt year 10000) (nat_lt 0 (two_at i os)) (nat_lt (two_at i os) 13) (nat_lt 0 (two_at (i + 2) os)) (nat_le (two_at (i + 2) os) (days_of year (two_at i os)))
    (nat_lt (two_at (i + 4) os) 24) (nat_lt (two_at (i + 6) os) 60) (nat_lt (two_at (i + 8) os) 60) (lt-ltb year 10000 y) d t

-- the time in the last ten digits is the octets from there on
time_back_two : (os : List ℕ) (year : ℕ) → digit_count os ≡ 12 → drop 12 os ≡ 90 ∷ [] → time_octets (time_from year 2 os) ≡ drop 2 os
time_back_two os year c z =
    let e10 = chunk os (90 ∷ []) 10 (omega (arith, c)) z in
    let e8 = chunk os _ 8 (omega (arith, c)) (sym e10) in
    let e6 = chunk os _ 6 (omega (arith, c)) (sym e8) in
    let e4 = chunk os _ 4 (omega (arith, c)) (sym e6) in
    chunk os _ 2 (omega (arith, c)) (sym e4)

time_back_four : (os : List ℕ) (year : ℕ) → digit_count os ≡ 14 → drop 14 os ≡ 90 ∷ [] → time_octets (time_from year 4 os) ≡ drop 4 os
time_back_four os year c z =
    let e12 = chunk os (90 ∷ []) 12 (omega (arith, c)) z in
    let e10 = chunk os _ 10 (omega (arith, c)) (sym e12) in
    let e8 = chunk os _ 8 (omega (arith, c)) (sym e10) in
    let e6 = chunk os _ 6 (omega (arith, c)) (sym e8) in
    chunk os _ 4 (omega (arith, c)) (sym e6)

-- a list with one octet after a place
length_of_end : (os : List ℕ) (i : ℕ) → drop i os ≡ 90 ∷ [] → length os ≡ i + 1
length_of_end os i e = let l = length-drop i os in let k : length (drop i os) ≡ 1 = ap length e in omega (arith, l, k)

year_back : (n : ℕ) → n < 100 → utc_year n % 100 ≡ n
year_back n h = grind arith

year_small : (n : ℕ) → n < 100 → utc_year n < 10000
year_small n h = grind arith

pub utc_to_form : (os : List ℕ) → digit_count os ≡ 12 → is_z (drop 12 os) ≡ true
    → exists_date (utc_year (two_at 0 os)) (two_at 2 os) (two_at 4 os) ≡ true → exists_time 6 6 os ≡ true → utc_form os ≡ true
utc_to_form os c z d t =
    let end = z_is (drop 12 os) z in
    let small = two_small os 0 (omega (arith, c)) in
    let rest = time_back_two os (utc_year (two_at 0 os)) c end in
    let back : utc_octets (utc_reading os) ≡ os =
    ap (λ n. two_digits n ++ time_octets (utc_reading os)) (year_back (two_at 0 os) small) ∙ chunk os _ 0 (omega (arith, c)) (sym rest) in
    both_true (eq-eqb (length os) 13 (length_of_end os 12 end))
    (both_true (valid_from (utc_year (two_at 0 os)) 2 os (year_small (two_at 0 os) small) d t) (subst (λ l. bytes_eq l os ≡ true) (sym back) (same_octets os)))

pub generalized_to_form : (os : List ℕ) → digit_count os ≡ 14 → is_z (drop 14 os) ≡ true
    → exists_date (two_at 0 os * 100 + two_at 2 os) (two_at 4 os) (two_at 6 os) ≡ true → exists_time 6 8 os ≡ true → generalized_form os ≡ true
generalized_to_form os c z d t =
    let end = z_is (drop 14 os) z in
    let century = two_small os 0 (omega (arith, c)) in
    let small = two_small os 2 (omega (arith, c)) in
    let year = two_at 0 os * 100 + two_at 2 os in
    let rest = time_back_four os year c end in
    let e2 : two_digits (two_at 2 os) ++ time_octets (generalized_reading os) ≡ drop 2 os = chunk os _ 2 (omega (arith, c)) (sym rest) in
    let first : year / 100 ≡ two_at 0 os = omega (arith, century, small) in
    let last : year % 100 ≡ two_at 2 os = omega (arith, century, small) in
    let back : generalized_octets (generalized_reading os) ≡ os =
    ap (λ n. two_digits n ++ two_digits (year % 100) ++ time_octets (generalized_reading os)) first
    ∙ ap (λ n. two_digits (two_at 0 os) ++ two_digits n ++ time_octets (generalized_reading os)) last ∙ chunk os _ 0 (omega (arith, c)) (sym e2) in
    both_true (eq-eqb (length os) 15 (length_of_end os 14 end))
    (both_true (valid_from year 4 os (omega (arith, century, small)) d t) (subst (λ l. bytes_eq l os ≡ true) (sym back) (same_octets os)))

octets_same : (xs ys : List ℕ) → bytes_eq xs ys ≡ true → xs ≡ ys
octets_same [] [] h = refl
octets_same [] (y ∷ ys) h = absurd (let e : false ≡ true = h in cc)
octets_same (x ∷ xs) [] h = absurd (let e : false ≡ true = h in cc)
octets_same (x ∷ xs) (y ∷ ys) h =
    let p = and_parts (x == y) (bytes_eq xs ys) h in
    let e = eqb-true x y p.0 in
    let f = octets_same xs ys p.1 in
    cc

-- the time of a date and time has ten digits and Z
count_time : (t : DateTime) → is_date_time t ≡ true → digit_count (time_octets t) ≡ 10
count_time t is =
    let b = bounded t is in
    let ending = two_digits t.second ++ 90 ∷ [] in
    let late = two_digits t.minute ++ ending in
    let hours = two_digits t.hour ++ late in
    let days = two_digits t.day ++ hours in
    count_chunk t.month days (omega (arith, b.month))
    ∙ ap (λ k. 2 + k) (count_chunk t.day hours (omega (arith, b.day))
    ∙ ap (λ k. 2 + k) (count_chunk t.hour late (omega (arith, b.hour))
    ∙ ap (λ k. 2 + k) (count_chunk t.minute ending (omega (arith, b.minute))
    ∙ ap (λ k. 2 + k) (count_chunk t.second (90 ∷ []) (omega (arith, b.second))))))

-- the parts of what is read from a place on
valid_parts : (year i : ℕ) (os : List ℕ) → is_date_time (time_from year i os) ≡ true
    → (exists_date year (two_at i os) (two_at (i + 2) os) ≡ true)
    × ((nat_lt (two_at (i + 4) os) 24 && (nat_lt (two_at (i + 6) os) 60 && nat_lt (two_at (i + 8) os) 60)) ≡ true)
valid_parts year i os is =
    apart (nat_lt year 10000) (nat_lt 0 (two_at i os)) (nat_lt (two_at i os) 13) (nat_lt 0 (two_at (i + 2) os)) (nat_le (two_at (i + 2) os) (days_of year (two_at i os)))
    (nat_lt (two_at (i + 4) os) 24) (nat_lt (two_at (i + 6) os) 60) (nat_lt (two_at (i + 8) os) 60) is

-- what the words of `der_asn1` say of octets
pub record IsUtc (os : List ℕ) : Type 0 where
  pub count : digit_count os ≡ 12
  pub end : drop 12 os ≡ 90 ∷ []
  pub date : exists_date (utc_year (two_at 0 os)) (two_at 2 os) (two_at 4 os) ≡ true
  pub time : exists_time 6 6 os ≡ true

pub utc_from_form : (os : List ℕ) → utc_form os ≡ true → IsUtc os
utc_from_form os h =
    let p = and_parts (length os == 13) (is_date_time (utc_reading os) && bytes_eq (utc_octets (utc_reading os)) os) h in
    let q = and_parts (is_date_time (utc_reading os)) (bytes_eq (utc_octets (utc_reading os)) os) p.1 in
    let same = octets_same (utc_octets (utc_reading os)) os q.1 in
    let parts = valid_parts (utc_year (two_at 0 os)) 2 os q.0 in
    record {
      count = ap digit_count (sym same) ∙ count_chunk (utc_year (two_at 0 os) % 100) (time_octets (utc_reading os)) (omega arith) ∙ ap (λ k. 2 + k) (count_time (utc_reading os) q.0);
      end = ap (drop 12) (sym same);
      date = parts.0;
      time = parts.1;
    }

pub record IsGeneralized (os : List ℕ) : Type 0 where
  pub count : digit_count os ≡ 14
  pub end : drop 14 os ≡ 90 ∷ []
  pub date : exists_date (two_at 0 os * 100 + two_at 2 os) (two_at 4 os) (two_at 6 os) ≡ true
  pub time : exists_time 6 8 os ≡ true

pub generalized_from_form : (os : List ℕ) → generalized_form os ≡ true → IsGeneralized os
generalized_from_form os h =
    let r = generalized_reading os in
    let p = and_parts (length os == 15) (is_date_time r && bytes_eq (generalized_octets r) os) h in
    let q = and_parts (is_date_time r) (bytes_eq (generalized_octets r) os) p.1 in
    let same = octets_same (generalized_octets r) os q.1 in
    let year = two_at 0 os * 100 + two_at 2 os in
    let parts = valid_parts year 4 os q.0 in
    let b = bounded r q.0 in
    record {
      count = ap digit_count (sym same) ∙ count_chunk (year / 100) (two_digits (year % 100) ++ time_octets r) (omega (arith, b.year)) ∙ ap (λ k. 2 + k) (count_chunk (year % 100) (time_octets r) (omega arith) ∙ ap (λ k. 2 + k) (count_time r q.0));
      end = ap (drop 14) (sym same);
      date = parts.0;
      time = parts.1;
    }
