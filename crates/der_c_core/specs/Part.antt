-- Writing an element with a begin and an end in C (`BeginsElement`, `EndsElement`): where its
-- contents begin (`IsBegun`), whether it is the innermost open element (`IsInnermost`), and where
-- contents and length are afterwards (`IsMoved`, `ended_state`); and finishing (`FinishesWriting`).
use Rattle.std.specs.Prelude.{◌≡◌, ◌≢◌, ℕ, ◌+◌, ◌-◌, ◌≤◌, true, false, List, ◌++◌, length, take, drop, Ok, Err}
use Rattle.der_base.specs.Error.{error_at}
use Rattle.der_base.specs.Length.{length_octets}
use Rattle.der_base.specs.declared.tag.Tag.{Tag}
use Rattle.der_base.specs.declared.error.Error.{Error}
use Rattle.der_base.specs.declared.error.ErrorKind.TheVariants.{Failed, TagNumberInvalid}
use Rattle.der_core.specs.Writer.{WriterState, Writes, writer_position, failed_state, space_outcome}
use Rattle.der_core.specs.Encode.{header_outcome}
use Rattle.der_c_core.specs.ErrorCode.{no_error, error_code, unbalanced_code}
use Rattle.der_c_core.specs.TagWord.{IsTagWord, NoTagWord}
use Rattle.der_c_core.specs.WriterCalls.{RefusesBy}
use Rattle.der_c_core.specs.CWriter.{writer_state, KeepsOpen}
use Rattle.der_c_core.specs.declared.mark.DerMark.{DerMark}
use Rattle.der_c_core.specs.declared.writer.DerWriter.{DerWriter}
use Rattle.der_c_core.specs.declared.error.DerError.{DerError}

-- a header with the tag of this word and a length of 0 is written, its contents begin there, and it
-- is the innermost open element; or there is an error
pub data BeginsElement (word : ℕ) (a : DerWriter) (result : DerError) (old new : DerMark)
    (b : DerWriter) : Type 0 where
  no_tag : NoTagWord word → RefusesBy TagNumberInvalid (writer_state a) result (writer_state b)
      → KeepsOpen a b → new ≡ old → BeginsElement word a result old new b
  no_header : (tag : Tag) (e : Error) → IsTagWord word tag
      → Writes (header_outcome tag 0 (writer_state a)) (Err e) (writer_state b)
      → result ≡ error_code e → KeepsOpen a b → new ≡ old → BeginsElement word a result old new b
  begun : (tag : Tag) → IsTagWord word tag
      → Writes (header_outcome tag 0 (writer_state a)) (Ok tt) (writer_state b)
      → result ≡ no_error → new.start ≡ b.position → new.outer ≡ a.innermost
      → b.innermost ≡ b.position → BeginsElement word a result old new b

-- contents begin at `start`, after an octet that their length may replace
abbrev pub IsBegun : ℕ → WriterState → Type 0
IsBegun start s = (1 ≤ start) × (start ≤ length s.octets)

-- how many octets the length of the contents needs beyond the one before them
abbrev pub more_octets : ℕ → WriterState → ℕ
more_octets start s = length (length_octets (length s.octets - start)) - 1

-- contents that end at `position` are moved by `more` octets; the octets before them are unchanged,
-- and so is the buffer after the place they are moved to
abbrev pub IsMoved : ℕ → ℕ → ℕ → List ℕ → List ℕ → Type 0
IsMoved start position more old new =
    (take (start - 1) new ≡ take (start - 1) old)
    × (drop (start + more) new
    ≡ take (position - start) (drop start old) ++ drop (position + more) old)

-- the writer with these octets in place of the one before the contents
abbrev pub put_state : ℕ → List ℕ → WriterState → WriterState
put_state start octets s =
    record s {
      octets = take (start - 1) s.octets ++ (octets ++ drop start s.octets);
      following = drop (length octets - 1) s.following;
    }

-- the writer with the length of the contents in place of the octet before them
abbrev pub ended_state : ℕ → WriterState → WriterState
ended_state start s = put_state start (length_octets (length s.octets - start)) s

-- the mark is that of the innermost open element
abbrev pub IsInnermost : DerMark → DerWriter → Type 0
IsInnermost mark a = (mark.start ≡ a.innermost) × IsBegun mark.start (writer_state a)

-- the length is put in its place, and the element around is the innermost; or there is an error,
-- and at most `failed` changes: the writer had failed, the mark is not that of the innermost
-- element, or there is no space for the additional length octets
pub data EndsElement (mark : DerMark) (a : DerWriter) (result : DerError) (b : DerWriter)
    : Type 0 where
  has_failed : a.failed ≡ true
      → result ≡ error_code (error_at Failed (writer_position (writer_state a)))
      → b ≡ a → EndsElement mark a result b
  unbalanced : a.failed ≡ false → (IsInnermost mark a → ⊥) → result ≡ unbalanced_code a.position
      → writer_state b ≡ failed_state (writer_state a) → KeepsOpen a b
      → EndsElement mark a result b
  no_space : (e : Error) → a.failed ≡ false → IsInnermost mark a
      → Writes (space_outcome (more_octets mark.start (writer_state a)) (writer_state a)
      (writer_state a)) (Err e) (writer_state b)
      → result ≡ error_code e → KeepsOpen a b → EndsElement mark a result b
  ended : a.failed ≡ false → IsInnermost mark a
      → Writes (space_outcome (more_octets mark.start (writer_state a)) (writer_state a)
      (ended_state mark.start (writer_state a))) (Ok tt) (writer_state b)
      → result ≡ no_error → b.innermost ≡ mark.outer → EndsElement mark a result b

-- the writer has failed; or an element is open; or neither
pub data FinishesWriting (a : DerWriter) (result : DerError) : Type 0 where
  has_failed : a.failed ≡ true
      → result ≡ error_code (error_at Failed (writer_position (writer_state a)))
      → FinishesWriting a result
  still_open : a.failed ≡ false → a.innermost ≢ 0 → result ≡ unbalanced_code a.position
      → FinishesWriting a result
  finished : a.failed ≡ false → a.innermost ≡ 0 → result ≡ no_error → FinishesWriting a result
