use Rattle.std.proofs.Common.{◌≡◌, ◌⊎◌, ℕ, List, Option, Result, Ok, Err, IfOk, IsOk, OnOk, String, sym, subst, inl, inr, rules, refl, codes}
use Rattle.std.specs.Result.{result_unwrap_or}
use Rattle.std.specs.Io.KnownBytes.{Appends}
use Rattle.std.specs.declared.vec.IntoIter.{IntoIter}
use Rattle.std.specs.declared.io.Error.{Error}
use Rattle.der_tool_lib.specs.ToolCommand.{texts}
use Rattle.der_tool_lib.specs.Answer.{WritesAnswer}
use Rattle.der_tool_lib.specs.PrintedText.{usage_line, error_line}
use Rattle.der_tool_lib.specs.Arguments.{AnswersArguments, AreWordsOf, WritesToArguments}
use Rattle.der_tool_lib.proofs.arguments.run_tool.Goals as goal

-- a result for the words is one for the arguments
to_arguments : {A B : Type 0} (given : Result (IntoIter (String A) B) Error) (arguments : IntoIter (String A) B) (words : List (List ℕ)) (status : ℕ) (old new : Option (List ℕ))
    → given ≡ Ok arguments → AreWordsOf arguments words → WritesAnswer words status old new → WritesToArguments given status old new
to_arguments given arguments words status old new is are (text, answers, appends) =
    (text, subst (λ x. AnswersArguments x status text) (sym is) (AnswersArguments.answered arguments words are answers), appends)

or_to_arguments : {A B : Type 0} (given : Result (IntoIter (String A) B) Error) (arguments : IntoIter (String A) B) (words : List (List ℕ)) (status : ℕ) (old new : Option (List ℕ))
    → given ≡ Ok arguments → AreWordsOf arguments words → (status ≡ 1) ⊎ WritesAnswer words status old new → (status ≡ 1) ⊎ WritesToArguments given status old new
or_to_arguments given arguments words status old new is are (inl failed) = inl failed
or_to_arguments given arguments words status old new is are (inr writes) = inr (to_arguments given arguments words status old new is are writes)

-- the text that was printed is a possible one
reported : {A B : Type 0} (given : Result (IntoIter (String A) B) Error) (status s : ℕ) (text : List ℕ) (old new : Option (List ℕ))
    → AnswersArguments given status text → s ≡ status → Appends old new text → WritesToArguments given s old new
reported given status s text old new answers is appends = (text, subst (λ x. AnswersArguments given x text) (sym is) answers, appends)

-- what `say` printed, if the output did not fail
said : {A B E : Type 0} (given : Result (IntoIter (String A) B) Error) (status : ℕ) (text : List ℕ) (r : Result ℕ E) (old new : Option (List ℕ))
    → AnswersArguments given status text → IfOk r (λ s. s ≡ status) → OnOk r (Appends old new text)
    → IsOk r → WritesToArguments given (result_unwrap_or r 1) old new
said given status text (Ok s) old new answers is appends ok = reported given status s text old new answers is appends
said given status text (Err e) old new answers is appends ok = absurd (search (rules, ok))

or_said : {A B E : Type 0} (given : Result (IntoIter (String A) B) Error) (status : ℕ) (text : List ℕ) (r : Result ℕ E) (old new : Option (List ℕ))
    → AnswersArguments given status text → IfOk r (λ s. s ≡ status) → OnOk r (Appends old new text)
    → (result_unwrap_or r 1 ≡ 1) ⊎ WritesToArguments given (result_unwrap_or r 1) old new
or_said given status text (Ok s) old new answers is appends = inr (reported given status s text old new answers is appends)
or_said given status text (Err e) old new answers is appends = inl refl

pub returns-in-Ok-words_of-clause-answers : goal.returns-in-Ok-words_of-clause-answers
returns-in-Ok-words_of-clause-answers g c =
    or_to_arguments c.args.given c.in-Ok.arguments (texts c.deref.result.now) c.run.result _ _ c.in-Ok.is
    (subst (λ ws. AreWordsOf c.in-Ok.arguments (texts ws)) (sym c.deref.ensures.value) c.in-Ok-words_of.ensures) c.run.ensures.answers

pub returns-in-Ok-words_of-clause-exact : goal.returns-in-Ok-words_of-clause-exact
returns-in-Ok-words_of-clause-exact g c =
    λ reliable. to_arguments c.args.given c.in-Ok.arguments (texts c.deref.result.now) c.run.result _ _ c.in-Ok.is
    (subst (λ ws. AreWordsOf c.in-Ok.arguments (texts ws)) (sym c.deref.ensures.value) c.in-Ok-words_of.ensures) (c.run.ensures.exact reliable)

pub returns-in-Err-words_of-clause-exact : goal.returns-in-Err-words_of-clause-exact
returns-in-Err-words_of-clause-exact g c =
    rw c.unwrap_or.ensures
    (λ reliable. said c.args.given 1 (error_line (codes "out of memory")) c.say.result _ _
    (subst (λ x. AnswersArguments x 1 (error_line (codes "out of memory"))) (sym c.in-Ok.is) (AnswersArguments.no_memory_for_words c.in-Ok.arguments))
    c.say.ensures.status c.say.ensures.written (c.say.ensures.succeeds reliable))

pub returns-in-Err-clause-answers : goal.returns-in-Err-clause-answers
returns-in-Err-clause-answers g c =
    rw c.unwrap_or-in-Err.ensures
    (or_said c.args.given 2 usage_line c.say-in-Err.result _ _
    (subst (λ x. AnswersArguments x 2 usage_line) (sym c.in-Err.is) (AnswersArguments.not_text c.in-Err.error (search rules)))
    c.say-in-Err.ensures.status c.say-in-Err.ensures.written)

pub returns-in-Err-clause-exact : goal.returns-in-Err-clause-exact
returns-in-Err-clause-exact g c =
    rw c.unwrap_or-in-Err.ensures
    (λ reliable. said c.args.given 2 usage_line c.say-in-Err.result _ _
    (subst (λ x. AnswersArguments x 2 usage_line) (sym c.in-Err.is) (AnswersArguments.not_text c.in-Err.error (search rules)))
    c.say-in-Err.ensures.status c.say-in-Err.ensures.written (c.say-in-Err.ensures.succeeds reliable))

pub returns-in-Err-2-clause-exact : goal.returns-in-Err-2-clause-exact
returns-in-Err-2-clause-exact g c =
    rw c.unwrap_or-in-Err-2.ensures
    (λ reliable. said c.args.given 1 (error_line (codes "out of memory")) c.say-in-Err-2.result _ _
    (subst (λ x. AnswersArguments x 1 (error_line (codes "out of memory"))) (sym c.in-Err-2.is) (AnswersArguments.no_memory c.in-Err-2.field-0 (λ k. search (rules, k))))
    c.say-in-Err-2.ensures.status c.say-in-Err-2.ensures.written (c.say-in-Err-2.ensures.succeeds reliable))
