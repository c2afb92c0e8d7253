-- What the program may print for its arguments, as the system passes them.
use Rattle.std.specs.Prelude.{◌≡◌, ℕ, List, drop, codes, Option, Result, Ok, Err, String}
use Rattle.std.specs.Iterator.{Drains}
use Rattle.std.specs.Vec.Iter.{into_iter_steps}
use Rattle.std.specs.declared.vec.IntoIter.{IntoIter}
use Rattle.std.specs.Io.KnownBytes.{Appends}
use Rattle.std.specs.IoError.{error_kind}
use Rattle.std.specs.declared.io.Error.{Error}
use Rattle.std.specs.declared.io.ErrorKind.TheVariants.{InvalidData}
use Rattle.der_tool_lib.specs.ToolCommand.{texts}
use Rattle.der_tool_lib.specs.Answer.{Answers}
use Rattle.der_tool_lib.specs.PrintedText.{usage_line, error_line}

-- the words are all arguments but the first, which is the name of the program
abbrev pub AreWordsOf : {A B : Type 0} → IntoIter (String A) B → List (List ℕ) → Type 0
AreWordsOf {A} arguments words =
    (given : List (String A)) × Drains into_iter_steps arguments given
    × (words ≡ drop 1 (texts given))

-- the statuses and texts that are possible for these arguments, or for the error instead of them:
-- arguments that are not text are not a command
pub data AnswersArguments {A B : Type 0} : Result (IntoIter (String A) B) Error → ℕ → List ℕ
    → Type 0 where
  answered : {status : ℕ} {text : List ℕ} (arguments : IntoIter (String A) B)
      (words : List (List ℕ))
      → AreWordsOf arguments words → Answers words status text
      → AnswersArguments (Ok arguments) status text
  no_memory_for_words : (arguments : IntoIter (String A) B)
      → AnswersArguments (Ok arguments) 1 (error_line (codes "out of memory"))
  not_text : (e : Error) → error_kind e ≡ InvalidData → AnswersArguments (Err e) 2 usage_line
  no_memory : (e : Error) → (error_kind e ≡ InvalidData → ⊥)
      → AnswersArguments (Err e) 1 (error_line (codes "out of memory"))

-- the output got a whole possible text for these arguments, and nothing else
abbrev pub WritesToArguments : {A B : Type 0} → Result (IntoIter (String A) B) Error → ℕ
    → Option (List ℕ) → Option (List ℕ) → Type 0
WritesToArguments given status old new =
    (text : List ℕ) × AnswersArguments given status text × Appends old new text
