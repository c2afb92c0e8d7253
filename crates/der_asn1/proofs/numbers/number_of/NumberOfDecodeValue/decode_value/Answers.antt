use Rattle.std.proofs.Common.{subst}
use Rattle.std.proofs.lemmas.Result.{err_from_is_err_and}
use Rattle.der.specs.Prelude.{head_of}
use Rattle.der_asn1.specs.HeaderForm.{RefusesForm, other_form}
use Rattle.der_asn1.proofs.numbers.number_of.NumberOfDecodeValue.decode_value.Goals as goal

pub returns-in_err-check_form-clause-exact : goal.returns-in_err-check_form-clause-exact
returns-in_err-check_form-clause-exact g c reliable =
    let p = err_from_is_err_and c.from_residual.result c.from_residual.ensures.1 in
    let s = g.R.Reader.state c.args.reader.now in
    let refused = subst (λ x. RefusesForm x (head_of c.args.header) s c.in_err-check_form.field-0.0 s) c.number_tag-tag.ensures c.in_err-check_form.ensures.refused in
    other_form c.in_err-check_form.field-0.0 p.0 refused p.2 p.1
