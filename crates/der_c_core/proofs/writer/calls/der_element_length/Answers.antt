use Rattle.std.proofs.Common.{◌≡◌, Ok, Err, refl, sym, ap, ◌∙◌}
use Rattle.der_base.specs.Length.{number}
use Rattle.der_base.specs.Arithmetic.{checked_length, element_count}
use Rattle.der_c_core.specs.ErrorCode.{error_code}
use Rattle.der_c_core.specs.WriterCalls.{measured, too_long}
use Rattle.der_c_core.proofs.WriterCallLemmas.{checked_ok, checked_err}
use Rattle.der_c_core.proofs.writer.calls.der_element_length.Goals as goal

pub returns-in-Ok : goal.returns-in-Ok
returns-in-Ok c =
    let reported : checked_length (element_count c.in-Some.tag c.args.length) ≡ Ok c.in-Ok.whole =
    ap (λ l. checked_length (element_count c.in-Some.tag (number l))) (sym c.new.ensures) ∙ sym c.for_tlv.ensures ∙ c.in-Ok.is in
    let fits = checked_ok reported in
    measured c.in-Some.tag c.in-Some.ensures.is fits.0 refl (c.from.ensures ∙ fits.1)

pub returns-in-Err : goal.returns-in-Err
returns-in-Err c =
    let reported : checked_length (element_count c.in-Some.tag c.args.length) ≡ Err c.in-Err.error =
    ap (λ l. checked_length (element_count c.in-Some.tag (number l))) (sym c.new.ensures) ∙ sym c.for_tlv.ensures ∙ c.in-Err.is in
    let long = checked_err reported in
    too_long c.in-Some.tag c.in-Some.ensures.is long.0 (c.c_error-in-Err.ensures ∙ ap error_code long.1) refl
