-- What follows the digits of a GeneralizedTime: a fraction and a zone, as they are written, and as they are checked.
use Rattle.std.proofs.Common.{◌≡◌, ◌⊎◌, inl, inr, ℕ, ℤ, suc, Bool, true, false, ◌*◌, ◌<◌, ◌==◌, ◌&&◌, ◌||◌, List, [], ◌∷◌, ◌++◌, length, drop, refl, sym, subst, ap, ◌∙◌, nat_lt, pos, ⊎_elim, Option, Some, None, not, append-nil, arith}
use Rattle.std.specs.Prelude.{◌-ℤ◌, if◌then◌else◌}
use Rattle.std.proofs.lemmas.Bool.{cases_Bool, and_parts, lt-ltb, ltb-true, eq-eqb, eqb-true}
use Rattle.std.proofs.lemmas.List.{length-drop}
use Rattle.std.specs.Cmp.Derive.{both_true}
use Rattle.schema_rules.proofs.TimeFormLemmas.{digit_bounds, chunk, count_chunk, z_is, is_digit_of}
use Rattle.std.specs.List.{AllByRecursion}
use Rattle.schema_rules.specs.Decimal.{begins_with_mark, after_fraction}
use Rattle.schema_rules.specs.Digits.{is_digit, digit_count, are_digits}
use Rattle.schema_rules.specs.GeneralizedTime.{zone_form}
use Rattle.der_asn1.specs.Times.{two_at, two_digits}
use Rattle.schema_rules.specs.WrittenTime.{IsZone, utc, ahead, behind, IsAnyZone, full, ahead_hours, behind_hours, local, IsDigit, IsFraction, none, part}
use Rattle.schema_rules.specs.Zone.{is_z, is_offset, exists_offset}
use Rattle.schema_rules.proofs.WrittenZoneLemmas.{either, either_true, none_left, offset_written, four_checked, small_back}

-- digits, and what comes after them
pub record IsSplit (os : List ℕ) : Type 0 where
  pub digits : List ℕ
  pub rest : List ℕ
  pub same : os ≡ digits ++ rest
  pub all : AllByRecursion IsDigit digits
  pub count : length digits ≡ digit_count os
  pub after : rest ≡ drop (digit_count os) os

pub split_digits : (os : List ℕ) → IsSplit os
split_digits [] = record { digits = []; rest = []; same = refl; all = tt; count = refl; after = refl }
split_digits (o ∷ os) = of (split_digits os) (cases_Bool (is_digit o))
  where
    of : IsSplit os → (is_digit o ≡ true) ⊎ (is_digit o ≡ false) → IsSplit (o ∷ os)
    of s (inl e) =
        let n : digit_count (o ∷ os) ≡ suc (digit_count os) = rw e (omega arith) in
        let d = digit_bounds o e in
        record {
          digits = o ∷ s.digits;
          rest = s.rest;
          same = ap (λ l. o ∷ l) s.same;
          all = ((omega (arith, d), omega (arith, d)), s.all);
          count = omega (arith, n, s.count);
          after = s.after ∙ sym (ap (λ k. drop k (o ∷ os)) n);
        }
    of s (inr e) =
        let n : digit_count (o ∷ os) ≡ 0 = rw e refl in
        record { digits = []; rest = o ∷ os; same = refl; all = tt; count = sym n; after = sym (ap (λ k. drop k (o ∷ os)) n) }

-- digits before what begins with none
pub counted : (ds zone : List ℕ) → AllByRecursion IsDigit ds → digit_count zone ≡ 0
    → (digit_count (ds ++ zone) ≡ length ds) × (drop (digit_count (ds ++ zone)) (ds ++ zone) ≡ zone)
counted [] zone all e = (e, ap (λ k. drop k zone) e)
counted (d ∷ ds) zone all e =
    let later = counted ds zone all.1 e in
    let is = is_digit_of d (omega (arith, all.0)) (omega (arith, all.0)) in
    let n : digit_count (d ∷ (ds ++ zone)) ≡ suc (digit_count (ds ++ zone)) = rw is (omega arith) in
    (omega (arith, n, later.0), ap (λ k. drop k (d ∷ (ds ++ zone))) n ∙ later.1)

-- what comes after the digits of a date and time
unfoldable pub tail_zone : List ℕ → List ℕ
tail_zone r = if begins_with_mark r then after_fraction r else r

unfoldable pub tail_form : List ℕ → Bool
tail_form r = (not (begins_with_mark r) || nat_lt 0 (digit_count (drop 1 r))) && zone_form (tail_zone r)

pub record IsTail (r : List ℕ) : Type 0 where
  pub fraction : List ℕ
  pub marked : List ℕ
  pub zone : List ℕ
  pub difference : Option ℤ
  pub same : r ≡ marked ++ zone
  pub parts : IsFraction fraction marked
  pub end : IsAnyZone difference zone

pub two_alone : (ds : List ℕ) → are_digits 2 ds ≡ true → two_digits (two_at 0 ds) ≡ ds
two_alone ds h =
    let p = and_parts (length ds == 2) (digit_count ds == 2) h in
    let l = eqb-true (length ds) 2 p.0 in
    let c = eqb-true (digit_count ds) 2 p.1 in
    let k = length-drop 2 ds in
    let last : two_digits (two_at 0 ds) ++ [] ≡ ds = chunk ds [] 0 (omega (arith, c)) (none_left (drop 2 ds) (omega (arith, k, l))) in
    sym (append-nil (two_digits (two_at 0 ds))) ∙ last

pub hours_written : (o : ℕ) (ds : List ℕ) → ((o == 43) || (o == 45)) ≡ true → are_digits 2 ds ≡ true → exists_offset (o ∷ ds) ≡ true → (d : Option ℤ) × IsAnyZone d (o ∷ ds)
hours_written o ds sign digits there = of (either (o == 43) (o == 45) sign)
  where
    l : length ds ≡ 2
    l = eqb-true (length ds) 2 (and_parts (length ds == 2) (digit_count ds == 2) digits).0

    h : ℕ
    h = two_at 0 ds

    rest : Bool
    rest = nat_lt (length (o ∷ ds)) 5 || nat_lt (two_at 2 ds) 60

    hour : h < 24
    hour = ⊎_elim (λ short. absurd (omega (arith, ltb-true (length (o ∷ ds)) 3 short, l))) (λ e. ltb-true h 24 (and_parts (nat_lt h 24) rest e).0) (either (nat_lt (length (o ∷ ds)) 3) (nat_lt h 24 && rest) there)

    of : ((o == 43) ≡ true) ⊎ ((o == 45) ≡ true) → (d : Option ℤ) × IsAnyZone d (o ∷ ds)
    of (inl e) = (Some (pos (3600 * h)), subst (λ k. IsAnyZone (Some (pos (3600 * h))) (k ∷ ds)) (sym (eqb-true o 43 e)) (subst (λ l. IsAnyZone (Some (pos (3600 * h))) (43 ∷ l)) (two_alone ds digits) (ahead_hours h hour)))
    of (inr e) = (Some (pos 0 -ℤ pos (3600 * h)), subst (λ k. IsAnyZone (Some (pos 0 -ℤ pos (3600 * h))) (k ∷ ds)) (sym (eqb-true o 45 e)) (subst (λ l. IsAnyZone (Some (pos 0 -ℤ pos (3600 * h))) (45 ∷ l)) (two_alone ds digits) (behind_hours h hour)))

pub any_zone_written : (zone : List ℕ) → zone_form zone ≡ true → exists_offset zone ≡ true → (d : Option ℤ) × IsAnyZone d zone
any_zone_written [] form there = (None, local)
any_zone_written (o ∷ ds) form there = of (either (is_z (o ∷ ds)) (is_offset 2 (o ∷ ds) || is_offset 4 (o ∷ ds)) form)
  where
    of : (is_z (o ∷ ds) ≡ true) ⊎ ((is_offset 2 (o ∷ ds) || is_offset 4 (o ∷ ds)) ≡ true) → (d : Option ℤ) × IsAnyZone d (o ∷ ds)
    of (inl e) = (Some (pos 0), full (subst (IsZone (pos 0)) (sym (z_is (o ∷ ds) e)) utc))
    of (inr e) = ⊎_elim
        (λ short. let p = and_parts ((o == 43) || (o == 45)) (are_digits 2 ds) short in hours_written o ds p.0 p.1 there)
        (λ long. let p = and_parts ((o == 43) || (o == 45)) (are_digits 4 ds) long in let z = offset_written o ds p.0 p.1 there in (Some z.0, full z.1))
        (either (is_offset 2 (o ∷ ds)) (is_offset 4 (o ∷ ds)) e)

-- a mark, and a digit after it
pub marked_tail : (o : ℕ) (os : List ℕ) → ((o == 44) || (o == 46)) ≡ true → 0 < digit_count os
    → zone_form (drop (digit_count os) os) ≡ true → exists_offset (drop (digit_count os) os) ≡ true → IsTail (o ∷ os)
marked_tail o os mark some form there = of s.digits s.same s.all s.count
  where
    s : IsSplit os
    s = split_digits os

    z : (d : Option ℤ) × IsAnyZone d s.rest
    z = any_zone_written s.rest (subst (λ l. zone_form l ≡ true) (sym s.after) form) (subst (λ l. exists_offset l ≡ true) (sym s.after) there)

    which : (o ≡ 46) ⊎ (o ≡ 44)
    which = ⊎_elim (λ e. inr (eqb-true o 44 e)) (λ e. inl (eqb-true o 46 e)) (either (o == 44) (o == 46) mark)

    of : (ds : List ℕ) → os ≡ ds ++ s.rest → AllByRecursion IsDigit ds → length ds ≡ digit_count os → IsTail (o ∷ os)
    of [] same all count = absurd (omega (arith, some, count))
    of (d ∷ ds) same all count = record {
      fraction = d ∷ ds;
      marked = o ∷ d ∷ ds;
      zone = s.rest;
      difference = z.0;
      same = ap (λ l. o ∷ l) same;
      parts = part o d ds which all.0 all.1;
      end = z.1;
    }

pub tail_written : (r : List ℕ) → tail_form r ≡ true → exists_offset (tail_zone r) ≡ true → IsTail r
unfolding tail_form tail_zone
tail_written [] form there = record { fraction = []; marked = []; zone = []; difference = None; same = refl; parts = none; end = local }
tail_written (o ∷ os) form there = ⊎_elim with_mark without (cases_Bool ((o == 44) || (o == 46)))
  where
    mark : Bool
    mark = (o == 44) || (o == 46)

    with_mark : mark ≡ true → IsTail (o ∷ os)
    with_mark e =
        let f = subst (λ b. ((not b || nat_lt 0 (digit_count os)) && zone_form (if b then drop (digit_count os) os else o ∷ os)) ≡ true) e form in
        let t = subst (λ b. exists_offset (if b then drop (digit_count os) os else o ∷ os) ≡ true) e there in
        let p = and_parts (nat_lt 0 (digit_count os)) (zone_form (drop (digit_count os) os)) f in
        marked_tail o os e (ltb-true 0 (digit_count os) p.0) p.1 t

    without : mark ≡ false → IsTail (o ∷ os)
    without e =
        let f = subst (λ b. ((not b || nat_lt 0 (digit_count os)) && zone_form (if b then drop (digit_count os) os else o ∷ os)) ≡ true) e form in
        let t = subst (λ b. exists_offset (if b then drop (digit_count os) os else o ∷ os) ≡ true) e there in
        let z = any_zone_written (o ∷ os) f t in
        record { fraction = []; marked = []; zone = o ∷ os; difference = z.0; same = refl; parts = none; end = z.1 }

-- what is checked of a zone of any kind
pub any_zone_checked : {d : Option ℤ} {zone : List ℕ} → IsAnyZone d zone → (digit_count zone ≡ 0) × ((begins_with_mark zone ≡ false) × ((zone_form zone ≡ true) × (exists_offset zone ≡ true)))
any_zone_checked local = (refl, (refl, (refl, refl)))
any_zone_checked (full utc) = (refl, (refl, (refl, refl)))
any_zone_checked (full (ahead h m hour minute)) =
    let f = four_checked h m hour minute in (refl, (refl, (f.0, f.1)))
any_zone_checked (full (behind h m hour minute)) =
    let f = four_checked h m hour minute in (refl, (refl, (f.0, f.1)))
any_zone_checked (ahead_hours h hour) =
    let c = count_chunk h [] (omega (arith, hour)) in
    (refl, (refl, (either_true (are_digits 2 (two_digits h)) false (inl (eq-eqb (digit_count (two_digits h)) 2 c)), both_true (small_back h 24 hour (omega arith)) refl)))
any_zone_checked (behind_hours h hour) =
    let c = count_chunk h [] (omega (arith, hour)) in
    (refl, (refl, (either_true (are_digits 2 (two_digits h)) false (inl (eq-eqb (digit_count (two_digits h)) 2 c)), both_true (small_back h 24 hour (omega arith)) refl)))

-- what is checked of what follows the digits of a date and time
pub record IsCheckedTail (r : List ℕ) : Type 0 where
  pub none : digit_count r ≡ 0
  pub form : tail_form r ≡ true
  pub there : exists_offset (tail_zone r) ≡ true

pub tail_of_part : (mark d : ℕ) (ds zone : List ℕ) → (mark ≡ 46) ⊎ (mark ≡ 44) → IsDigit d → AllByRecursion IsDigit ds
    → digit_count zone ≡ 0 → zone_form zone ≡ true → exists_offset zone ≡ true → IsCheckedTail (mark ∷ d ∷ (ds ++ zone))
unfolding tail_form tail_zone
tail_of_part mark d ds zone which digit all apart form there = ⊎_elim (λ e. of 46 e refl refl) (λ e. of 44 e refl refl) which
  where
    c : (digit_count ((d ∷ ds) ++ zone) ≡ suc (length ds)) × (drop (digit_count ((d ∷ ds) ++ zone)) ((d ∷ ds) ++ zone) ≡ zone)
    c = counted (d ∷ ds) zone (digit, all) apart

    of : (k : ℕ) → mark ≡ k → is_digit k ≡ false → ((k == 44) || (k == 46)) ≡ true → IsCheckedTail (mark ∷ d ∷ (ds ++ zone))
    of k e other is = record {
      none = rw (subst (λ q. is_digit q ≡ false) (sym e) other) refl;
      form = subst (λ b. ((not b || nat_lt 0 (digit_count (d ∷ (ds ++ zone)))) && zone_form (if b then drop (digit_count (d ∷ (ds ++ zone))) (d ∷ (ds ++ zone)) else mark ∷ d ∷ (ds ++ zone))) ≡ true) (sym marked)
          (both_true (lt-ltb 0 (digit_count (d ∷ (ds ++ zone))) (omega (arith, c.0))) (subst (λ l. zone_form l ≡ true) (sym c.1) form));
      there = subst (λ b. exists_offset (if b then drop (digit_count (d ∷ (ds ++ zone))) (d ∷ (ds ++ zone)) else mark ∷ d ∷ (ds ++ zone)) ≡ true) (sym marked)
          (subst (λ l. exists_offset l ≡ true) (sym c.1) there);
    }
      where
        marked : ((mark == 44) || (mark == 46)) ≡ true
        marked = subst (λ q. ((q == 44) || (q == 46)) ≡ true) (sym e) is

pub tail_checked : {fraction marked : List ℕ} {d : Option ℤ} {zone : List ℕ} → IsFraction fraction marked → IsAnyZone d zone → IsCheckedTail (marked ++ zone)
unfolding tail_form tail_zone
tail_checked {zone = zone} none z =
    let k = any_zone_checked z in
    record {
      none = k.0;
      form = subst (λ b. ((not b || nat_lt 0 (digit_count (drop 1 zone))) && zone_form (if b then after_fraction zone else zone)) ≡ true) (sym k.1.0) k.1.1.0;
      there = subst (λ b. exists_offset (if b then after_fraction zone else zone) ≡ true) (sym k.1.0) k.1.1.1;
    }
tail_checked {zone = zone} (part mark d ds which digit all) z =
    let k = any_zone_checked z in
    tail_of_part mark d ds zone which digit all k.0 k.1.1.0 k.1.1.1
