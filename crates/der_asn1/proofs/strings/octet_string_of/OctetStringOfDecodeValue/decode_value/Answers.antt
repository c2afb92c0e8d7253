use Rattle.std.proofs.lemmas.Result.{err_from_is_err_and}
use Rattle.der_asn1.specs.HeaderForm.{other_form, own_form}
use Rattle.der_asn1.proofs.strings.octet_string_of.OctetStringOfDecodeValue.decode_value.Goals as goal

pub returns-in_err-check_form-clause-complete : goal.returns-in_err-check_form-clause-complete
returns-in_err-check_form-clause-complete g c v reliable contents few = absurd (c.in_err-check_form.ensures.refused.other contents.taken.0)

pub returns-in_err-check_form-clause-exact : goal.returns-in_err-check_form-clause-exact
returns-in_err-check_form-clause-exact g c reliable =
    let p = err_from_is_err_and c.from_residual.result c.from_residual.ensures.1 in
    other_form c.in_err-check_form.field-0.0 p.0 c.in_err-check_form.ensures.refused p.2 p.1

pub returns-in_err-value-clause-complete : goal.returns-in_err-value-clause-complete
returns-in_err-value-clause-complete g c v reliable contents few =
    let p = err_from_is_err_and c.from_residual-in_err-value.result c.from_residual-in_err-value.ensures.1 in
    rw (p.1, p.2) (c.in_err-value.ensures.complete v.0 reliable (record { is_next = contents.is_next; taken = contents.taken.1 }) few)

pub returns-in_err-value-clause-exact : goal.returns-in_err-value-clause-exact
returns-in_err-value-clause-exact g c reliable =
    let p = err_from_is_err_and c.from_residual-in_err-value.result c.from_residual-in_err-value.ensures.1 in
    own_form c.in_ok-check_form.ensures.formed (rw (p.1, p.2) (c.in_err-value.ensures.exact reliable))

pub returns-clause-complete : goal.returns-clause-complete
returns-clause-complete g c v reliable contents few =
    c.in_ok-value.ensures.complete v.0 reliable (record { is_next = contents.is_next; taken = contents.taken.1 }) few

pub returns-clause-exact : goal.returns-clause-exact
returns-clause-exact g c reliable = own_form c.in_ok-check_form.ensures.formed (c.in_ok-value.ensures.exact reliable)
