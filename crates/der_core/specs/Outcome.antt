-- The result of a reader call and the state after it (`Outcome`). A table gives the outcome for
-- each state before the call; its cases are in the order in which errors are checked. A call has
-- the outcome of its table (`Gives`), or must have it in some cases (`Meets`, `IsBinding`); if the
-- reader does not move, only the result is compared (`AnswersAs`, `PeeksAs`).
use Rattle.std.specs.Prelude.{◌≡◌, Bool, true, Option, Some, None, Result, Ok, Err, IsErr}
use Rattle.der_base.specs.Error.{Refusal}
use Rattle.der_base.specs.declared.error.Error.{Error}
use Rattle.der_core.specs.ReaderState.{ReaderState, state_after}

-- the result of a call, and the state after it
pub record Outcome (A : Type 0) : Type 0 where
  pub answer : Result A Error
  pub after : ReaderState

abbrev pub outcome_of : {A : Type 0} → Result A Error → ReaderState → Outcome A
outcome_of answer after = record { answer = answer; after = after }

-- the error and the state after it that this failure specifies
abbrev pub refused_outcome : (A : Type 0) → ReaderState → Refusal → Outcome A
refused_outcome A s r = record { answer = Err r.error; after = state_after s r }

-- the call has the result, and the state after it, that its table gives
pub record Gives {A : Type 0} (table : ReaderState → Outcome A) (s : ReaderState)
    (answer : Result A Error)
    (t : ReaderState) : Type 0 where
  pub answered : answer ≡ (table s).answer
  pub leaves : t ≡ (table s).after

-- a call must have the outcome of its table if it returns `Ok`, and always on a reliable reader
abbrev pub Meets : {A : Type 0}
    → Bool → (ReaderState → Outcome A) → ReaderState → Result A Error → ReaderState → Type 0
Meets reliable table s (Ok a) t = Gives table s (Ok a) t
Meets reliable table s (Err e) t = reliable ≡ true → Gives table s (Err e) t

-- if the reader does not move, only the result must be that of the table: if the call returns `Ok`,
-- and always on a reliable reader
abbrev pub AnswersAs : {A : Type 0} → Bool → (ReaderState → Outcome A) → ReaderState
    → Result A Error → Type 0
AnswersAs reliable table s (Ok a) = Ok a ≡ (table s).answer
AnswersAs reliable table s (Err e) = reliable ≡ true → Err e ≡ (table s).answer

-- the outcome after a result: that of the next call if it is `Ok`, otherwise its error
abbrev pub outcome_following : {A B : Type 0} → Result A Error → ReaderState
    → (A → ReaderState → Outcome B) → Outcome B
outcome_following (Ok a) t next = next a t
outcome_following (Err e) t next = outcome_of (Err e) t

abbrev pub chained_outcome : {A B : Type 0} → Outcome A → (A → ReaderState → Outcome B) → Outcome B
chained_outcome o next = outcome_following o.answer o.after next

-- whether a reader must meet its specification for a result: always for `Ok`, and for an error if
-- the reader is reliable
abbrev pub IsBinding : {T E : Type 0} → Bool → Result T E → Type 0
IsBinding reliable (Ok v) = Unit {0}
IsBinding reliable (Err e) = reliable ≡ true

-- maps the value of a result, for example to its octets
abbrev pub map_ok : {A B F : Type 0} → (A → B) → Result A F → Result B F
map_ok f (Ok a) = Ok (f a)
map_ok f (Err e) = Err e

-- for a call that returns `None` instead of an error: a value that it returns is that of the table;
-- if a reliable reader returns `None`, the table has an error
abbrev pub PeeksAs : {A : Type 0} → Bool → Result A Error → Option A → Type 0
PeeksAs reliable answer (Some a) = answer ≡ Ok a
PeeksAs reliable answer None = reliable ≡ true → IsErr answer
