use Rattle.std.proofs.Common.{sym, ap, ◌∙◌}
use Rattle.der_asn1.specs.Forms.{oid_form}
use Rattle.der_c_values.specs.Dotted.{oid_text}
use Rattle.der_c_values.specs.WriteOidText.{of_text, no_text}
use Rattle.der_c_values.proofs.write_oid_text.der_write_oid_text.Goals as goal

pub returns-in-Ok-clause-writes : goal.returns-in-Ok-clause-writes
returns-in-Ok-clause-writes c =
    let is = c.as_slice.ensures in
    let ok = c.in-Ok.ensures.ok in
    of_text c.as_slice.result.now (ap oid_form is ∙ ok.0, ok.1 ∙ ap oid_text (sym is)) c.der_write_element.ensures.writes

pub returns-in-Err-clause-writes : goal.returns-in-Err-clause-writes
returns-in-Err-clause-writes c = no_text c.refuse_no_value.ensures.writes
