use Rattle.std.proofs.Common.{subst, inl, inr}
use Rattle.der_tool_lib.specs.ToolCommand.{IsCommand}
use Rattle.der_tool_lib.proofs.WordLemmas.{words_with_order, command_with_order}
use Rattle.der_tool_lib.proofs.command.ToolCommand.of_three.Goals as goal

pub returns-then-eq-2-clause-found : goal.returns-then-eq-2-clause-found
returns-then-eq-2-clause-found c =
    let words = words_with_order c.args.first.now c.args.second.now c.args.third.now c.if-eq-2.ensures in
    let found = c.ordering.ensures.found in
    (λ some. inr (inl (_, _, (found.0 some).0, (found.0 some).1, words)), λ command. found.1 (command_with_order _ _ (subst IsCommand words command)))
