-- The results of counting what a writer would write in C: octets (`Counts`), a header or an element
-- (`CountsTagged`), an element with a begin and an end (`CountsBegin`, `CountsEnd`), and the number
-- (`GivesCount`).
use Rattle.std.specs.Prelude.{◌≡◌, ◌≢◌, ℕ, ◌+◌, ◌-◌, ◌^◌, ◌<◌, ◌≤◌, true, false, Result, Ok, Err, length, if◌then◌else◌}
use Rattle.der_base.specs.Error.{error_at, error_of_kind}
use Rattle.der_base.specs.Length.{definite_length, length_octets}
use Rattle.der_base.specs.Tag.{tag_octets}
use Rattle.der_base.specs.declared.tag.Tag.{Tag}
use Rattle.der_base.specs.declared.error.ErrorKind.TheVariants.{Failed, Overflow, TagNumberInvalid}
use Rattle.der_c_core.specs.ErrorCode.{no_error, error_code, unbalanced_code}
use Rattle.der_c_core.specs.TagWord.{IsTagWord, NoTagWord}
use Rattle.der_c_core.specs.declared.counter.DerCounter.{DerCounter}
use Rattle.der_c_core.specs.declared.mark.DerMark.{DerMark}
use Rattle.der_c_core.specs.declared.error.DerError.{DerError}

abbrev pub no_count : DerCounter
no_count = record { innermost = 0; count = 0; failed = false }

-- the octets of the header of an element
abbrev pub header_count : Tag → ℕ → ℕ
header_count t n = length (tag_octets t) + length (length_octets n)

-- a result as an error of C
abbrev pub result_code : Result (Unit {0}) DerError → DerError
result_code (Ok _) = no_error
result_code (Err e) = e

-- the error of a counter that had failed
abbrev pub failed_code : DerCounter → DerError
failed_code a = error_code (error_at Failed (definite_length a.count))

-- n octets are counted; or the counter had failed; or there are too many, and it fails
pub data Counts (n : ℕ) (a : DerCounter) (result : DerError) (b : DerCounter) : Type 0 where
  has_failed : a.failed ≡ true → result ≡ failed_code a → b ≡ a → Counts n a result b
  too_many : a.failed ≡ false → 2 ^ 32 ≤ a.count + n
      → result ≡ error_code (error_at Overflow (definite_length a.count))
      → b ≡ record a { failed = true } → Counts n a result b
  counted : a.failed ≡ false → a.count + n < 2 ^ 32 → result ≡ no_error
      → b ≡ record a { count = a.count + n } → Counts n a result b

-- a word is not that of a tag, and the counter fails
pub record RefusesCount (a : DerCounter) (result : DerError) (b : DerCounter) : Type 0 where
  pub reported : result ≡ (if a.failed then failed_code a
      else error_code (error_of_kind TagNumberInvalid))
  pub leaves : b ≡ record a { failed = true }

-- the octets of a header or an element with the tag of this word are counted; or the word is that
-- of no tag
pub data CountsTagged (octets : Tag → ℕ) (word : ℕ) (a : DerCounter) (result : DerError)
    (b : DerCounter) : Type 0 where
  no_tag : NoTagWord word → RefusesCount a result b → CountsTagged octets word a result b
  of_tag : (tag : Tag) → IsTagWord word tag → Counts (octets tag) a result b
      → CountsTagged octets word a result b

-- a header with a length of 0 is counted, its contents begin there, and it is the innermost open
-- element; or there is an error
pub data CountsBegin (word : ℕ) (a : DerCounter) (result : DerError) (old new : DerMark)
    (b : DerCounter) : Type 0 where
  no_tag : NoTagWord word → RefusesCount a result b → new ≡ old
      → CountsBegin word a result old new b
  refused : (tag : Tag) → IsTagWord word tag → a.innermost ≡ b.innermost → b.failed ≡ true
      → Counts (header_count tag 0) a result b → new ≡ old → CountsBegin word a result old new b
  begun : (tag : Tag) (c : DerCounter) → IsTagWord word tag
      → Counts (header_count tag 0) a no_error c → result ≡ no_error
      → new ≡ record { start = c.count; outer = a.innermost }
      → b ≡ record c { innermost = c.count } → CountsBegin word a result old new b

-- the mark is that of the innermost open element
abbrev pub IsInnermost : DerMark → DerCounter → Type 0
IsInnermost mark a = (mark.start ≡ a.innermost) × (1 ≤ mark.start) × (mark.start ≤ a.count)

-- how many octets the length of the contents needs beyond one
abbrev pub more_count : DerMark → DerCounter → ℕ
more_count mark a = length (length_octets (a.count - mark.start)) - 1

-- the octets of the length are counted, and the element around is the innermost; or there is an
-- error
pub data CountsEnd (mark : DerMark) (a : DerCounter) (result : DerError) (b : DerCounter)
    : Type 0 where
  has_failed : a.failed ≡ true → result ≡ failed_code a → b ≡ a → CountsEnd mark a result b
  unbalanced : a.failed ≡ false → (IsInnermost mark a → ⊥) → result ≡ unbalanced_code a.count
      → b ≡ record a { failed = true } → CountsEnd mark a result b
  refused : a.failed ≡ false → IsInnermost mark a → b.failed ≡ true
      → Counts (more_count mark a) a result b → CountsEnd mark a result b
  ended : (c : DerCounter) → a.failed ≡ false → IsInnermost mark a
      → Counts (more_count mark a) a no_error c → result ≡ no_error
      → b ≡ record c { innermost = mark.outer } → CountsEnd mark a result b

-- the number of octets; or the counter had failed; or an element is open
pub data GivesCount (a : DerCounter) (result : DerError) (old new : ℕ) : Type 0 where
  has_failed : a.failed ≡ true → result ≡ failed_code a → new ≡ old → GivesCount a result old new
  still_open : a.failed ≡ false → a.innermost ≢ 0 → result ≡ unbalanced_code a.count → new ≡ old
      → GivesCount a result old new
  given : a.failed ≡ false → a.innermost ≡ 0 → result ≡ no_error → new ≡ a.count
      → GivesCount a result old new
