use Rattle.std.proofs.Common.{sym, ◌∙◌}
use Rattle.der_c_values.specs.WriteCalls.{no_value, of_value}
use Rattle.der_c_values.proofs.write_checked.der_write_text.Goals as goal

pub returns-clause-writes : goal.returns-clause-writes
returns-clause-writes c = of_value (sym c.has_form.ensures ∙ c.if-not-has_form.false) c.der_write_element.ensures.writes

pub returns-then-not-has_form-clause-writes : goal.returns-then-not-has_form-clause-writes
returns-then-not-has_form-clause-writes c = no_value (sym c.has_form.ensures ∙ c.if-not-has_form.true) c.refuse_no_value.ensures.writes
