use Rattle.der_tool_lib.proofs.TextLemmas.{tlv_reports, element_refused}
use Rattle.der_tool_lib.proofs.tlv.answer_tlv.Goals as goal

pub returns-in_ok-element_line-in-Ok : goal.returns-in_ok-element_line-in-Ok
returns-in_ok-element_line-in-Ok g c = tlv_reports c.args.rules c.args.octets.now _ c.in-Ok.element.now c.in-Ok.ensures.ok c.in_ok-element_line-in-Ok.ensures

pub returns-in_ok-error_line-in-Err : goal.returns-in_ok-error_line-in-Err
returns-in_ok-error_line-in-Err g c = element_refused c.args.rules c.args.octets.now _ c.in-Err.error c.in-Err.ensures.err c.in_ok-error_line-in-Err.ensures
