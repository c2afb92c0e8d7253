use Rattle.std.proofs.Common.{ap, ◌∙◌}
use Rattle.der.specs.JoinedOctets.{joined_octets}
use Rattle.der_tool_lib.proofs.JoinLemmas.{join_reports, join_refused}
use Rattle.der_tool_lib.specs.PrintedText.{octets_line}
use Rattle.der_tool_lib.proofs.join.answer_join.Goals as goal

pub returns-in_ok-octets_line-in-Ok : goal.returns-in_ok-octets_line-in-Ok
returns-in_ok-octets_line-in-Ok g c = join_reports c.args.octets.now _ (joined_octets c.in-Ok.joined) c.in-Ok.ensures.ok (c.in_ok-octets_line-in-Ok.ensures ∙ ap octets_line c.as_slice.ensures)

pub returns-in_ok-error_line-in-Err : goal.returns-in_ok-error_line-in-Err
returns-in_ok-error_line-in-Err g c = join_refused c.args.octets.now _ c.in-Err.error c.in-Err.ensures.err c.in_ok-error_line-in-Err.ensures
