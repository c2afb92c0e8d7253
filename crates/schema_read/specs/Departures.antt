-- Lists of departures.
use Rattle.std.specs.Prelude.{◌≡◌, ◌&&◌, not, nat_lt, ℕ, Bool, true, List, [], ◌∷◌}
use Rattle.schema_read.specs.Rule.{verdict_of_rule}
use Rattle.schema_read.specs.declared.departure.Departure.{Departure}
use Rattle.schema_read.specs.declared.verdict.Verdict.TheVariants.{Ber}

-- each is at one of so many octets, or at their end
abbrev pub are_inside : ℕ → List Departure → Bool
are_inside n [] = true
are_inside n (d ∷ ds) = not (nat_lt n d.offset) && are_inside n ds

-- each is from a rule that DER has and BER has not
abbrev pub AreOfDer : List Departure → Type 0
AreOfDer [] = Unit {0}
AreOfDer (d ∷ ds) = (verdict_of_rule d.rule ≡ Ber) × AreOfDer ds
