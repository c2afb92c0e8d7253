-- Reading a nested part by a closure: when a part may be entered and left (`CanNest`, `CanLeave`),
-- the condition on the closure (`RestoresReader`), and the cases of `close_nested` (`Closes`),
-- `close_value` (`ClosesValue`), `read_nested` (`NestedAnswer`) and `read_value` (`ValueAnswer`).
use Rattle.std.specs.Prelude.{◌≡◌, ℕ, ◌+◌, ◌-◌, ◌<◌, ◌≤◌, Bool, true, false, length, Result, Ok, Err}
use Rattle.der_base.specs.Error.{error_at}
use Rattle.der_base.specs.Length.{number, is_indefinite, definite_length}
use Rattle.der_base.specs.declared.length.Length.{Length}
use Rattle.der_base.specs.declared.error.Error.{Error}
use Rattle.der_base.specs.declared.error.ErrorKind.TheVariants.{TrailingData}
use Rattle.der_core.specs.ReaderState.{ReaderState, reader_position, nested_state, resumed_state, stopped_state, Same}
use Rattle.der_core.specs.Outcome.{Gives}
use Rattle.der_core.specs.Reader.{enter_nested_outcome, read_eoc_outcome}

-- a nested part of n octets can be entered
abbrev pub CanNest : ReaderState → ℕ → Type 0
CanNest s n = (s.position + n ≤ s.end) × (s.depth < 64)

-- the result of a closure on a nested part is returned; octets that it left unread are an error
pub data Closes {T E : Type 0} (converts : Error → E → Type 0) (answer : Result T E)
    (s : ReaderState)
    (end depth : ℕ) (result : Result T E) (t : ReaderState) : Type 0 where
  forwarded : (e : E) → answer ≡ Err e → result ≡ Err e → t ≡ resumed_state s end depth
      → Closes converts answer s end depth result t
  left_over : (v : T) (e : E) → answer ≡ Ok v → s.position < s.end
      → converts (error_at (TrailingData (reader_position s) (definite_length (s.end - s.position)))
      (reader_position s)) e
      → result ≡ Err e → t ≡ stopped_state (resumed_state s end depth) s.position
      → Closes converts answer s end depth result t
  whole : (v : T) → answer ≡ Ok v → s.position ≡ s.end → result ≡ Ok v
      → t ≡ resumed_state s end depth
      → Closes converts answer s end depth result t

-- a nested part may be left: its outer end is between the position and the input's length
pub record CanLeave (s : ReaderState) (end depth : ℕ) : Type 0 where
  pub passed : s.position ≤ end
  pub in_input : end ≤ length s.input
  pub shallow : depth ≤ 64

-- the condition on a closure that reads a nested part of n octets: it may be called inside the
-- part, and leaves the same reader
pub record RestoresReader {P Q A : Type 0} (pre : P → Type 0) (post : P → A → Q → Type 0)
    (before : P → ReaderState) (after : Q → ReaderState) (s : ReaderState) (n : ℕ) : Type 0 where
  pub callable : (p : P) → CanNest s n → before p ≡ nested_state s n → pre p
  pub same : (p : P) (a : A) (q : Q) → CanNest s n → before p ≡ nested_state s n → post p a q
      → Same (before p) (after q)

-- the nested part of n octets cannot be entered, or the closure ran inside it and its result
-- determines that of the call
pub data NestedAnswer {P Q T E : Type 0} (converts : Error → E → Type 0)
    (post : P → Result T E → Q → Type 0) (before : P → ReaderState) (after : Q → ReaderState)
    (n : ℕ)
    (s : ReaderState) (result : Result T E) (t : ReaderState) : Type 0 where
  not_entered : (e : Error) (f : E) → Gives (enter_nested_outcome n) s (Err e) t → converts e f
      → result ≡ Err f → NestedAnswer converts post before after n s result t
  entered : (p : P) (answer : Result T E) (q : Q) → CanNest s n → before p ≡ nested_state s n
      → post p answer q → Closes converts answer (after q) s.end s.depth result t
      → NestedAnswer converts post before after n s result t

-- a nested part is left, and then the end-of-contents octets are read, if its length was read in
-- the indefinite form (`has_eoc`)
pub data ClosesValue {T E : Type 0} (converts : Error → E → Type 0) (answer : Result T E)
    (s : ReaderState) (end depth : ℕ) (has_eoc : Bool) (result : Result T E) (t : ReaderState)
    : Type 0 where
  part_refused : (e : E) → Closes converts answer s end depth (Err e) t → result ≡ Err e
      → ClosesValue converts answer s end depth has_eoc result t
  without_eoc : (v : T) → Closes converts answer s end depth (Ok v) t → has_eoc ≡ false
      → result ≡ Ok v → ClosesValue converts answer s end depth has_eoc result t
  with_eoc : (v : T) (u : ReaderState) → Closes converts answer s end depth (Ok v) u
      → has_eoc ≡ true
      → Gives read_eoc_outcome u (Ok tt) t → result ≡ Ok v
      → ClosesValue converts answer s end depth has_eoc result t
  eoc_failed : (v : T) (u : ReaderState) (e : Error) (f : E)
      → Closes converts answer s end depth (Ok v) u → has_eoc ≡ true
      → Gives read_eoc_outcome u (Err e) t → converts e f → result ≡ Err f
      → ClosesValue converts answer s end depth has_eoc result t

-- contents of this length cannot be entered, or the closure ran inside them and its result
-- determines that of the call
pub data ValueAnswer {P Q T E : Type 0} (converts : Error → E → Type 0)
    (post : P → Result T E → Q → Type 0) (before : P → ReaderState) (after : Q → ReaderState)
    (length : Length)
    (s : ReaderState) (result : Result T E) (t : ReaderState) : Type 0 where
  not_opened : (e : Error) (f : E) → Gives (enter_nested_outcome (number length)) s (Err e) t
      → converts e f → result ≡ Err f → ValueAnswer converts post before after length s result t
  opened : (p : P) (answer : Result T E) (q : Q) → CanNest s (number length)
      → before p ≡ nested_state s (number length) → post p answer q
      → ClosesValue converts answer (after q) s.end s.depth (is_indefinite length) result t
      → ValueAnswer converts post before after length s result t
