use Rattle.std.proofs.Common.{subst, inr}
use Rattle.der_tool_lib.specs.ToolCommand.{IsCommand}
use Rattle.der_tool_lib.proofs.WordLemmas.{words_with_join, command_with_join}
use Rattle.der_tool_lib.proofs.command.ToolCommand.of_two.Goals as goal

pub returns-then-eq-clause-found : goal.returns-then-eq-clause-found
returns-then-eq-clause-found c =
    let words = words_with_join c.args.name.now c.args.hex.now c.if-eq.ensures in
    let found = c.joining.ensures.found in
    (λ some. inr (inr (_, found.0 some, words)), λ command. found.1 (command_with_join _ (subst IsCommand words command)))
