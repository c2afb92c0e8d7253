-- The meaning of a writer (`WriterState`), the outcome of a write (`space_outcome` is the one table
-- of its errors), and how a call may change the writer (`Keeps`, `Appends`, `Fits`).
use Rattle.std.specs.Prelude.{◌≡◌, ℕ, ◌+◌, ◌-◌, ◌^◌, Bool, true, false, List, [], ◌∷◌, ◌++◌, length, take, drop, Result, Ok, Err, OnOk, IsOk, ◌≤◌, min, nat_lt, if◌then◌else◌}
use Rattle.der_base.specs.Length.{definite_length}
use Rattle.der_base.specs.Error.{error_at}
use Rattle.der_base.specs.declared.length.Length.{Length}
use Rattle.der_base.specs.declared.error.Error.{Error}
use Rattle.der_base.specs.declared.error.ErrorKind.TheVariants.{Failed, Overflow, Overlength}

-- The meaning of a writer. One without a buffer starts at 0 with nothing written, chooses its own
-- `stop`, has an empty `following`, and any capacity and reference: these two distinguish this
-- writer from others.
pub record WriterState : Type 0 where
  -- all octets written since the start of the buffer
  pub octets : List ℕ
  -- the octets of the buffer after them
  pub following : List ℕ
  -- the start and the end of the part of the buffer that may be written
  pub start : ℕ
  pub stop : ℕ
  -- the length of the buffer
  pub capacity : ℕ
  pub failed : Bool
  -- the identity of the buffer
  pub reference : ℕ

-- a writer over a whole buffer, limited to the octets that a length can count
abbrev pub fresh_state : List ℕ → ℕ → WriterState
fresh_state buffer reference =
    record {
      octets = [];
      following = buffer;
      start = 0;
      stop = min (length buffer) (2 ^ 32 - 1);
      capacity = length buffer;
      failed = false;
      reference = reference;
    }

-- the number of octets written into the part that may be written
abbrev pub written_count : WriterState → ℕ
written_count s = length s.octets - s.start

-- the position: that number as a length
abbrev pub writer_position : WriterState → Length
writer_position s = definite_length (written_count s)

abbrev pub appended_state : WriterState → List ℕ → WriterState
appended_state s octets =
    record s { octets = s.octets ++ octets; following = drop (length octets) s.following }

abbrev pub failed_state : WriterState → WriterState
failed_state s = record s { failed = true }

-- the same writer, still failed if it had failed; octets written earlier remain, and the octets of
-- the buffer after those written now are unchanged
pub record Keeps (s t : WriterState) : Type 0 where
  pub start : t.start ≡ s.start
  pub stop : t.stop ≡ s.stop
  pub capacity : t.capacity ≡ s.capacity
  pub reference : t.reference ≡ s.reference
  pub before : take (length s.octets) t.octets ≡ s.octets
  pub following : t.following ≡ drop (length t.octets - length s.octets) s.following
  pub fails : s.failed ≡ true → t.failed ≡ true

-- a call that succeeds appends the octets
abbrev pub Appends : WriterState → List ℕ → Result (Unit {0}) Error → WriterState → Type 0
Appends s octets result t = OnOk result (t ≡ appended_state s octets)

-- a call on a writer that has not failed and has space for the octets succeeds
abbrev pub Fits : WriterState → List ℕ → Result (Unit {0}) Error → Type 0
Fits s octets result = s.failed ≡ false → length s.octets + length octets ≤ s.stop → IsOk result

-- the result of a call, and the state after it
pub record WriterOutcome : Type 0 where
  pub answer : Result (Unit {0}) Error
  pub after : WriterState

-- a call has the result and the state t of its outcome
pub record Writes (outcome : WriterOutcome) (answer : Result (Unit {0}) Error)
    (t : WriterState) : Type 0 where
  pub answered : answer ≡ outcome.answer
  pub leaves : t ≡ outcome.after

abbrev pub success_outcome : WriterState → WriterOutcome
success_outcome t = record { answer = Ok tt; after = t }

abbrev pub refusal_outcome : Error → WriterState → WriterOutcome
refusal_outcome e t = record { answer = Err e; after = t }

-- n more octets, for which there must be space; each error leaves the writer failed
abbrev pub space_outcome : ℕ → WriterState → WriterState → WriterOutcome
space_outcome n s granted =
    if s.failed then refusal_outcome (error_at Failed (writer_position s)) s
    else if nat_lt (written_count s + n) (2 ^ 32) then (
    if nat_lt s.stop (length s.octets + n)
    then refusal_outcome (error_at Overlength (definite_length (written_count s + n)))
    (failed_state s)
    else success_outcome granted)
    else refusal_outcome (error_at Overflow (writer_position s)) (failed_state s)

-- a write of n octets succeeds; `has_space` states this when it returns true
abbrev pub HasSpace : WriterState → ℕ → Type 0
HasSpace s n = (space_outcome n s s).answer ≡ Ok tt

-- the error for n octets at a position, by whether the writer has failed
abbrev pub space_error : Bool → ℕ → ℕ → Error
space_error failed position n =
    if failed then error_at Failed (definite_length position)
    else if nat_lt (position + n) (2 ^ 32) then error_at Overlength (definite_length (position + n))
    else error_at Overflow (definite_length position)

abbrev pub write_outcome : List ℕ → WriterState → WriterOutcome
write_outcome octets s = space_outcome (length octets) s (appended_state s octets)

-- a call, and another one if it succeeds
abbrev pub chained_write : Result (Unit {0}) Error → WriterState
    → (WriterState → WriterOutcome) → WriterOutcome
chained_write (Ok _) t next = next t
chained_write (Err e) t next = refusal_outcome e t

-- octets that are written in pieces, one write for each
abbrev pub write_pieces : List (List ℕ) → WriterState → WriterOutcome
write_pieces [] s = success_outcome s
write_pieces (piece ∷ pieces) s =
    chained_write (write_outcome piece s).answer (write_outcome piece s).after (write_pieces pieces)
