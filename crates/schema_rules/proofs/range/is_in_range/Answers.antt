use Rattle.std.proofs.Common.{ℕ, ◌<◌, ◌^◌, sym, subst, ◌∙◌, FitsSigned, w64}
use Rattle.std.proofs.lemmas.Int.{to_z-of_z}
use Rattle.schema_rules.proofs.RangeLemmas.{tests_value, fits_signed}
use Rattle.schema_rules.proofs.range.is_in_range.Goals as goal

pub returns-in-Some : goal.returns-in-Some
returns-in-Some c =
    tests_value c.is_between.result c.is_negative-negative.result c.args.contents.now c.in-Some.magnitude _ _ c.args.low c.args.high _ c.is_negative-negative.ensures
    c.in-Some.ensures.1 (to_z-of_z w64 c.signed.result (subst (FitsSigned w64) (sym c.signed.ensures) (fits_signed c.is_negative-negative.result c.in-Some.magnitude (subst (λ (k : ℕ). k < 2 ^ 63) (sym c.in-Some.ensures.1) c.in-Some.ensures.0))) ∙ c.signed.ensures)
    (to_z-of_z w64 c.args.low c.ranges.low) (to_z-of_z w64 c.args.high c.ranges.high) c.is_between.ensures
