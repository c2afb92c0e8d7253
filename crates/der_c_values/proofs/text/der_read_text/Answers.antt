use Rattle.std.proofs.Common.{refl, sym, ◌∙◌}
use Rattle.der_c_values.specs.ValueCalls.{no_value, value, of_type}
use Rattle.der_c_values.proofs.text.der_read_text.Goals as goal

pub returns-then-not-has_form-clause-reads : goal.returns-then-not-has_form-clause-reads
returns-then-not-has_form-clause-reads c =
    of_type (sym c.is_string_type.ensures ∙ c.if-not-is_string_type.false)
    (no_value c.in-Ok.octets.now _ c.in-Ok.ensures.ok (sym c.has_form.ensures ∙ c.if-not-has_form.true) c.refuse_value.ensures.reported c.refuse_value.ensures.stopped refl)

pub returns-clause-reads : goal.returns-clause-reads
returns-clause-reads c =
    of_type (sym c.is_string_type.ensures ∙ c.if-not-is_string_type.false)
    (value c.in-Ok.octets.now c.in-Ok.ensures.ok (sym c.has_form.ensures ∙ c.if-not-has_form.false) refl (refl, refl))
