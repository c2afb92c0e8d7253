use Rattle.std.proofs.Common.{◌≡◌, ℕ, List, Result, Ok, Err, IfOk, rules, refl}
use Rattle.std.proofs.lemmas.Bool.{false≢true}
use Rattle.std.specs.Result.{result_unwrap_or}
use Rattle.der_tool_lib.specs.ToolCommand.{IsCommand, words_of, texts}
use Rattle.der_tool_lib.specs.Answer.{Answers, Fulfils, status_of, text_of}
use Rattle.der_tool_lib.specs.declared.answer.Answer.{Answer}
use Rattle.der_tool_lib.specs.declared.answer.Answer.TheVariants.{OutOfMemory}
use Rattle.der_tool_lib.specs.declared.command.ToolCommand.{ToolCommand}
use Rattle.der_tool_lib.proofs.program.answer.Goals as goal

-- the result of a command, or that an allocation failed
or_no_memory : {A E : Type 0} (words : List (List ℕ)) (command : ToolCommand) (r : Result (Answer A) E) → words ≡ words_of command → IsCommand words
    → IfOk r (λ a. Fulfils command (status_of a) (text_of a))
    → Answers words (status_of (result_unwrap_or r OutOfMemory)) (text_of (result_unwrap_or r OutOfMemory))
or_no_memory words command (Ok a) w i fulfils = Answers.fulfilled command w fulfils
or_no_memory words command (Err e) w i h = Answers.no_memory i

pub returns-in-Some : goal.returns-in-Some
returns-in-Some g c =
    let words = texts c.args.words.now in
    rw c.unwrap_or.ensures
    (or_no_memory words c.in-Some.command c.fulfil.result c.in-Some.ensures.words (c.in-Some.ensures.found.0 refl) c.fulfil.ensures)

pub returns-in-None : goal.returns-in-None
returns-in-None g c = Answers.misused (λ h. search (rules, false≢true, c.in-None.ensures.found.1 h))
