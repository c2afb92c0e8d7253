-- A SEQUENCE (X.690 8.9) that is written by a closure: its header, and a part of the buffer that is
-- reserved for its contents. `RestoresWriter` is the condition on the closure, and `SequenceAnswer`
-- has the cases of the call.
use Rattle.std.specs.Prelude.{◌≡◌, ℕ, ◌+◌, ◌<◌, ◌≤◌, true, false, length, take, ◌++◌, Result, Ok, Err, OnOk}
use Rattle.std.specs.Borrow.{MutBor}
use Rattle.der_base.specs.Length.{definite_length}
use Rattle.der_base.specs.HeaderGrammar.{header_octets}
use Rattle.der_base.specs.Error.{error_at}
use Rattle.der_base.specs.declared.tag.Tag.TheVariants.{Sequence}
use Rattle.der_base.specs.declared.error.Error.{Error}
use Rattle.der_base.specs.declared.error.ErrorKind.TheVariants.{Failed, Length as IncorrectLength}
use Rattle.der_core.specs.Writer.{WriterState, Keeps, Writes, appended_state, written_count, writer_position, space_outcome}
use Rattle.der_core.specs.Encode.{header_outcome}
use Rattle.der_core.specs.SliceWriter.{slice_writer_state}
use Rattle.der_core.specs.declared.writer.slice.SliceWriter.{SliceWriter}

-- the precondition of a closure, and its outcome
abbrev pub Condition : Type 1
Condition = MutBor SliceWriter → Type 0

abbrev pub Run : Type 1
Run = MutBor SliceWriter → Result (Unit {0}) Error → MutBor SliceWriter → Type 0

-- a new writer over the next n octets only
abbrev pub part_state : WriterState → ℕ → WriterState
part_state s n = record s { start = length s.octets; stop = length s.octets + n; failed = false }

-- the writer around a reserved part, at the start of that part
abbrev pub outer_state : WriterState → ℕ → ℕ → WriterState
outer_state q start stop =
    record q { octets = take q.start q.octets; start = start; stop = stop; failed = false }

-- after the header of a SEQUENCE of n octets
abbrev pub headed_state : WriterState → ℕ → WriterState
headed_state s n = appended_state s (header_octets Sequence n)

-- the condition on a closure that writes a reserved part of n octets: it may be called with a
-- writer over the part, and leaves the same writer
pub record RestoresWriter (pre : Condition) (run : Run) (s : WriterState) (n : ℕ) : Type 0 where
  pub callable : (p : MutBor SliceWriter) → slice_writer_state p.now ≡ part_state s n → pre p
  pub same : (p : MutBor SliceWriter) (r : Result (Unit {0}) Error) (q : MutBor SliceWriter)
      → slice_writer_state p.now ≡ part_state s n → run p r q
      → Keeps (slice_writer_state p.now) (slice_writer_state q.now)

-- failed after a reserved part of n octets; the buffer is as the closure left it
pub record Abandons (s : WriterState) (n : ℕ) (q t : WriterState) : Type 0 where
  pub start : t.start ≡ s.start
  pub stop : t.stop ≡ s.stop
  pub capacity : t.capacity ≡ s.capacity
  pub reference : t.reference ≡ s.reference
  pub failed : t.failed ≡ true
  pub passed : length t.octets ≡ length s.octets + n
  pub buffer : t.octets ++ t.following ≡ q.octets ++ q.following

-- the result and the writer t after a closure that got the reserved part, given its result and the
-- writer q that it left
pub data ClosesPart (s : WriterState) (n : ℕ) (q t : WriterState)
    : Result (Unit {0}) Error → Result (Unit {0}) Error → Type 0 where
  forwarded : (e : Error) → Abandons s n q t → ClosesPart s n q t (Err e) (Err e)
  failed : q.failed ≡ true → Abandons s n q t → ClosesPart s n q t (Ok tt)
      (Err (error_at Failed (writer_position q)))
  unfilled : q.failed ≡ false → length q.octets < length s.octets + n → Abandons s n q t
      → ClosesPart s n q t (Ok tt)
      (Err (error_at (IncorrectLength Sequence) (definite_length (written_count s + n))))
  filled : q.failed ≡ false → length q.octets ≡ length s.octets + n
      → t ≡ record s { octets = q.octets; following = q.following }
      → ClosesPart s n q t (Ok tt) (Ok tt)

-- the closure ran over the reserved part, and its result determines that of the call
pub record Runs (run : Run) (s : WriterState) (n : ℕ) (result : Result (Unit {0}) Error)
    (t : WriterState) : Type 0 where
  pub given : MutBor SliceWriter
  pub answer : Result (Unit {0}) Error
  pub after : MutBor SliceWriter
  pub over_part : slice_writer_state given.now ≡ part_state s n
  pub ran : run given answer after
  pub closed : ClosesPart s n (slice_writer_state after.now) t answer result

-- the closure ran over the reserved part and filled it, without an error
pub record IsFilledBy (run : Run) (s : WriterState) (n : ℕ) (t : WriterState) : Type 0 where
  pub given : MutBor SliceWriter
  pub after : MutBor SliceWriter
  pub over_part : slice_writer_state given.now ≡ part_state s n
  pub ran : run given (Ok tt) after
  pub working : (slice_writer_state after.now).failed ≡ false
  pub full : length (slice_writer_state after.now).octets ≡ length s.octets + n
  pub leaves : t ≡ record s {
    octets = (slice_writer_state after.now).octets;
    following = (slice_writer_state after.now).following;
  }

-- a call that succeeds filled the reserved part
abbrev pub Fills : Run → WriterState → ℕ → Result (Unit {0}) Error → WriterState → Type 0
Fills run s n result t = OnOk result (IsFilledBy run s n t)

-- if there is space, the closure ran
abbrev pub RunsIfSpace : Run → WriterState → ℕ → Result (Unit {0}) Error → WriterState → Type 0
RunsIfSpace run s n result t = s.failed ≡ false → length s.octets + n ≤ s.stop
    → Runs run s n result t

-- the cases of reserving and filling n octets: there is no space, or the closure ran
pub data PartAnswer (run : Run) (s : WriterState) (n : ℕ) (result : Result (Unit {0}) Error)
    (t : WriterState) : Type 0 where
  no_space : (e : Error) → (space_outcome n s s).answer ≡ Err e
      → Writes (space_outcome n s s) result t → PartAnswer run s n result t
  ran : (space_outcome n s s).answer ≡ Ok tt → Runs run s n result t → PartAnswer run s n result t

-- the cases of `sequence`: no space for the header; otherwise the reserved part after it
pub data SequenceAnswer (run : Run) (s : WriterState) (n : ℕ) (result : Result (Unit {0}) Error)
    (t : WriterState) : Type 0 where
  no_header : (e : Error) → (header_outcome Sequence n s).answer ≡ Err e
      → Writes (header_outcome Sequence n s) result t → SequenceAnswer run s n result t
  with_header : Writes (header_outcome Sequence n s) (Ok tt) (headed_state s n)
      → PartAnswer run (headed_state s n) n result t → SequenceAnswer run s n result t
