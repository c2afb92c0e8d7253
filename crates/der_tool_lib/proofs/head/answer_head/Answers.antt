use Rattle.der.specs.Prelude.{head_of}
use Rattle.der_tool_lib.proofs.TextLemmas.{head_reports, answer_refused}
use Rattle.der_tool_lib.proofs.head.answer_head.Goals as goal

pub returns-in_ok-header_lines-in-Ok : goal.returns-in_ok-header_lines-in-Ok
returns-in_ok-header_lines-in-Ok g c =
    head_reports c.args.rules c.args.octets.now _ c.in-Ok.rest.now (head_of c.in-Ok.header) c.in-Ok.ensures.ok c.in_ok-header_lines-in-Ok.ensures

pub returns-in_ok-error_line-in-Err : goal.returns-in_ok-error_line-in-Err
returns-in_ok-error_line-in-Err g c =
    answer_refused c.args.rules c.args.octets.now _ c.in-Err.error c.in-Err.ensures.err c.in_ok-error_line-in-Err.ensures
