use Rattle.std.proofs.Common.{sym, rules, ◌∙◌, w64}
use Rattle.std.proofs.lemmas.Int.{to_z-of_z}
use Rattle.der_c_values.specs.TimeValues.{no_date, no_value, of_value}
use Rattle.der_c_values.proofs.write_time.der_write_time_seconds.Goals as goal

pub returns-then-not-has_time-clause-writes : goal.returns-then-not-has_time-clause-writes
returns-then-not-has_time-clause-writes c =
    let is = c.in-Some.ensures.some in
    no_value c.in-Some.date is.0 (is.1 ∙ to_z-of_z w64 c.args.seconds (search rules)) (sym c.has_time.ensures ∙ c.if-not-has_time.true)
    c.refuse_no_value-then-not-has_time.ensures.writes

pub returns-clause-writes : goal.returns-clause-writes
returns-clause-writes c =
    let is = c.in-Some.ensures.some in
    of_value c.in-Some.date (sym c.has_time.ensures ∙ c.if-not-has_time.false) (is.1 ∙ to_z-of_z w64 c.args.seconds (search rules))
    (rw (c.as_slice.ensures ∙ c.contents_of.ensures) at c.der_write_element.ensures.writes)

pub returns-in_default-clause-writes : goal.returns-in_default-clause-writes
returns-in_default-clause-writes c =
    no_date (rw (to_z-of_z w64 c.args.seconds (search rules)) at c.in_default.ensures.none) c.refuse_no_value.ensures.writes
