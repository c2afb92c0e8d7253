-- The results of the functions on a writer in C (`WritesOctets`, `WritesHeader`, `WritesElement`,
-- and `WritesShort` for a two-octet header), and of the size of an element (`Measures`).
use Rattle.std.specs.Prelude.{◌≡◌, ℕ, ◌^◌, ◌<◌, ◌≤◌, List, length, Result, Ok, if◌then◌else◌}
use Rattle.der_base.specs.Length.{definite_length}
use Rattle.der_base.specs.Error.{error_at, error_of_kind}
use Rattle.der_base.specs.Arithmetic.{element_count}
use Rattle.der_base.specs.declared.tag.Tag.{Tag}
use Rattle.der_base.specs.declared.error.Error.{Error}
use Rattle.der_base.specs.declared.error.ErrorKind.{ErrorKind}
use Rattle.der_base.specs.declared.error.ErrorKind.TheVariants.{Failed, Overflow, TagNumberInvalid}
use Rattle.der_core.specs.Writer.{WriterState, Writes, writer_position, failed_state, write_outcome}
use Rattle.der_core.specs.Encode.{ElementWritten, header_outcome}
use Rattle.der_c_core.specs.ErrorCode.{no_error, error_code}
use Rattle.der_c_core.specs.CReader.{answer_code}
use Rattle.der_c_core.specs.TagWord.{IsTagWord, NoTagWord}
use Rattle.der_c_core.specs.declared.error.DerError.{DerError}

-- the error is of this kind, without a position, or `Failed` if the writer had failed; the writer
-- has failed
pub record RefusesBy (kind : ErrorKind) (s : WriterState) (result : DerError) (t : WriterState)
    : Type 0 where
  pub reported : result ≡ error_code (if s.failed then error_at Failed (writer_position s)
      else error_of_kind kind)
  pub leaves : t ≡ failed_state s

-- octets are written, or there is an error
pub record WritesOctets (octets : List ℕ) (s : WriterState) (result : DerError) (t : WriterState)
    : Type 0 where
  pub answer : Result (Unit {0}) Error
  pub writes : Writes (write_outcome octets s) answer t
  pub reported : result ≡ answer_code answer

-- a header with the tag of this word and a length of n octets is written
pub record WritesShort (word n : ℕ) (s t : WriterState) : Type 0 where
  pub tag : Tag
  pub is : IsTagWord word tag
  pub few : n < 2 ^ 32
  pub writes : Writes (header_outcome tag n s) (Ok tt) t

-- a header with the tag of this word and a length of n octets is written, or there is an error; or
-- the word is that of no tag
pub data WritesHeader (word n : ℕ) (s : WriterState) (result : DerError) (t : WriterState)
    : Type 0 where
  no_tag : NoTagWord word → RefusesBy TagNumberInvalid s result t → WritesHeader word n s result t
  of_tag : (tag : Tag) (answer : Result (Unit {0}) Error) → IsTagWord word tag
      → Writes (header_outcome tag n s) answer t → result ≡ answer_code answer
      → WritesHeader word n s result t

-- an element with the tag of this word is written, or there is an error; or the word is that of no
-- tag
pub data WritesElement (word : ℕ) (contents : List ℕ) (s : WriterState) (result : DerError)
    (t : WriterState) : Type 0 where
  too_long : 2 ^ 32 ≤ length contents → RefusesBy Overflow s result t
      → WritesElement word contents s result t
  no_tag : NoTagWord word → length contents < 2 ^ 32 → RefusesBy TagNumberInvalid s result t
      → WritesElement word contents s result t
  of_tag : (tag : Tag) (answer : Result (Unit {0}) Error) → IsTagWord word tag
      → length contents < 2 ^ 32
      → ElementWritten tag (Ok (definite_length (length contents)))
      (λ u. Writes (write_outcome contents u)) s answer t
      → result ≡ answer_code answer → WritesElement word contents s result t

-- `new` is the number of octets of an element with the tag of this word and n octets of contents
pub data Measures (word n : ℕ) (result : DerError) (old new : ℕ) : Type 0 where
  no_tag : NoTagWord word → result ≡ error_code (error_of_kind TagNumberInvalid) → new ≡ old
      → Measures word n result old new
  too_long : (tag : Tag) → IsTagWord word tag → 2 ^ 32 ≤ element_count tag n
      → result ≡ error_code (error_of_kind Overflow) → new ≡ old → Measures word n result old new
  measured : (tag : Tag) → IsTagWord word tag → element_count tag n < 2 ^ 32 → result ≡ no_error
      → new ≡ element_count tag n → Measures word n result old new
