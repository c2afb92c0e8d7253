use Rattle.std.proofs.Common.{ap, ◌∙◌}
use Rattle.der_tool_lib.specs.PrintedText.{order_line}
use Rattle.der_tool_lib.proofs.TextLemmas.{order_reports, order_refused}
use Rattle.der_tool_lib.proofs.order.answer_order.Goals as goal

pub returns-in_ok-from_str-in-Ok : goal.returns-in_ok-from_str-in-Ok
returns-in_ok-from_str-in-Ok g c =
    order_reports _ c.args.first.now c.args.second.now c.in-Ok.ensures.whole
    (c.in_ok-from_str-in-Ok.ensures.ok ∙ c.order_line.ensures ∙ ap order_line c.in-Ok.ensures.ok)

pub returns-in_ok-error_line-in-Err : goal.returns-in_ok-error_line-in-Err
returns-in_ok-error_line-in-Err g c =
    order_refused _ c.args.first.now c.args.second.now c.in-Err.error c.in-Err.ensures.err c.in_ok-error_line-in-Err.ensures
