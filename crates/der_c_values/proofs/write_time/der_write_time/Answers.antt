use Rattle.std.proofs.Common.{sym, ap, ◌∙◌}
use Rattle.der_c_values.specs.TimeValues.{is_time_of, time_contents}
use Rattle.der_c_values.specs.WriteCalls.{no_value, of_value}
use Rattle.der_c_values.proofs.write_time.der_write_time.Goals as goal

pub returns-clause-writes : goal.returns-clause-writes
returns-clause-writes c =
    of_value (ap (is_time_of c.args.time_type) (sym c.date_time-date.ensures) ∙ sym c.has_time.ensures ∙ c.if-not-has_time.false)
    (rw (c.as_slice.ensures ∙ c.contents_of.ensures ∙ ap (time_contents c.args.time_type) c.date_time-date.ensures) at c.der_write_element.ensures.writes)

pub returns-then-not-has_time-clause-writes : goal.returns-then-not-has_time-clause-writes
returns-then-not-has_time-clause-writes c =
    no_value (ap (is_time_of c.args.time_type) (sym c.date_time-date.ensures) ∙ sym c.has_time.ensures ∙ c.if-not-has_time.true)
    c.refuse_no_value.ensures.writes
