-- Lemmas on the days before a year.
use Rattle.std.proofs.Common.{◌≡◌, ℕ, zero, suc, ◌+◌, ◌*◌, ◌/◌, ◌%◌, ◌⊎◌, refl, ⊎_elim, arith}
use Rattle.std.proofs.lemmas.Bool.{cases_eq, eq-eqb, ne_eqb}
use Rattle.der_asn1.specs.UnixTime.{days_of_year, days_before_year}

-- how many days a year has, by quotients
year_step : (y : ℕ) → days_of_year y + (y + 3) / 4 + (y + 399) / 400 + (y + 100) / 100 ≡ 365 + (y + 4) / 4 + (y + 400) / 400 + (y + 99) / 100
year_step y = ⊎_elim
    (λ four. ⊎_elim
    (λ hundred. ⊎_elim
    (λ most. rw (eq-eqb (y % 4) 0 four, eq-eqb (y % 100) 0 hundred, eq-eqb (y % 400) 0 most) (omega arith))
    (λ other. rw (eq-eqb (y % 4) 0 four, eq-eqb (y % 100) 0 hundred, ne_eqb (y % 400) 0 other) (omega arith))
    (cases_eq (y % 400) 0))
    (λ other. rw (eq-eqb (y % 4) 0 four, ne_eqb (y % 100) 0 other) (omega arith))
    (cases_eq (y % 100) 0))
    (λ other. rw (ne_eqb (y % 4) 0 other) (omega arith))
    (cases_eq (y % 4) 0)

-- the days before a year, without a sum
pub days_closed : (y : ℕ) → days_before_year y + (y + 99) / 100 ≡ 365 * y + (y + 3) / 4 + (y + 399) / 400
days_closed zero = refl
days_closed (suc y) = omega (arith, days_closed y, year_step y)
