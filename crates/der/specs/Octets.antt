-- Types whose contents are octets or a text: the valid values (`IsCounted`, `IsText`), which
-- contents are accepted (`TakesOctets`), and the possible results of reading (`BorrowedOctetsRead`
-- and the three definitions after it) and writing (`OctetsWritten`).
use Rattle.std.specs.Prelude.{◌≡◌, ℕ, ◌+◌, ◌^◌, ◌<◌, ◌≤◌, ◌⊎◌, Bool, true, false, List, length, drop, take, nat_lt, nat_le, Result, Ok, Err, IsOk, if◌then◌else◌}
use Rattle.std.proofs.Common.{arith}
use Rattle.std.specs.Str.{is_utf8}
use Rattle.std.specs.Str.Lossy.{utf8_valid_len, utf8_error_len}
use Rattle.std.specs.declared.str.Utf8Error.{Utf8Error}
use Rattle.der_base.specs.Error.{error_at, error_of_kind, error_at_end, kind_of}
use Rattle.der_base.specs.HeaderGrammar.{Head}
use Rattle.der_base.specs.Length.{number, definite_length}
use Rattle.der_base.specs.Tag.{label}
use Rattle.der_base.specs.declared.tag.Tag.{Tag}
use Rattle.der_base.specs.declared.length.Length.{Length}
use Rattle.der_base.specs.declared.error.Error.{Error}
use Rattle.der_base.specs.declared.error.ErrorKind.TheVariants.{Overflow, OutOfMemory, Reader, Utf8}
use Rattle.der_base.specs.declared.encoding_rules.EncodingRules.{EncodingRules}
use Rattle.der_core.specs.Decode.{is_out_of_memory_kind}
use Rattle.der_core.specs.DecodeValue.{ContentsNext, EndsOrLacks}
use Rattle.der_core.specs.Encode.{WriterAnswer}
use Rattle.der_core.specs.Lawful.{IsLawful}
use Rattle.der_core.specs.Outcome.{Outcome, Gives, outcome_of, chained_outcome, map_ok}
use Rattle.der_core.specs.Reader.{read_slice_outcome, VecMeets}
use Rattle.der_core.specs.ReaderState.{ReaderState, reader_position}
use Rattle.der_core.specs.Writer.{Writes, write_outcome}

-- octets whose number fits in a `Length`
abbrev pub IsCounted : List ℕ → Type 0
IsCounted octets = length octets < 2 ^ 32

-- UTF-8 octets whose number fits in a `Length`
abbrev pub IsText : List ℕ → Type 0
IsText octets = (is_utf8 octets ≡ true) × IsCounted octets

-- the octets, or an error if their number does not fit in a `Length`
abbrev pub checked_octets : List ℕ → Result (List ℕ) Error
checked_octets octets =
    if nat_lt (length octets) (2 ^ 32) then Ok octets else Err (error_of_kind Overflow)

-- the number of valid octets before the first UTF-8 error, and the length of that error
abbrev pub utf8_fault : List ℕ → Utf8Error
utf8_fault octets =
    record {
      valid_up_to = utf8_valid_len octets;
      error_len = utf8_error_len (drop (utf8_valid_len octets) octets);
    }

-- the octets, or an error if they are not UTF-8, or else if their number does not fit in a `Length`
abbrev pub checked_text : List ℕ → Result (List ℕ) Error
checked_text octets =
    if is_utf8 octets then checked_octets octets
    else Err (error_of_kind (Utf8 (utf8_fault octets)))

-- the first n octets, or an error if there are fewer
abbrev pub prefix_of : ℕ → List ℕ → Result (List ℕ) Error
prefix_of n octets =
    if nat_le n (length octets) then Ok (take n octets)
    else Err (error_at_end (definite_length (length octets)))

-- the expected result, or an allocation failure instead of an expected `Ok`
abbrev pub AnswersOrLacks : {A : Type 0} → Result A Error → Result A Error → Type 0
AnswersOrLacks answer result =
    (result ≡ answer) ⊎ (IsOk answer × (result ≡ Err (error_of_kind OutOfMemory)))

-- the value's octets are the contents, under both rules and whatever the header
abbrev pub TakesOctets : {A : Type 0} → (List ℕ → Type 0) → (A → List ℕ)
    → A → EncodingRules → Head → List ℕ → Type 0
TakesOctets IsKind octets_of v rules h octets = IsKind (octets_of v) × (octets_of v ≡ octets)

-- the next n octets, as a text
abbrev pub text_outcome : ℕ → ReaderState → Outcome (List ℕ)
text_outcome n s =
    chained_outcome (read_slice_outcome n s) (λ octets t. outcome_of (checked_text octets) t)

-- the possible results of reading borrowed octets, copied octets, a borrowed text and a copied
-- text; the reader is after the contents if the allocation of the copied text fails
abbrev pub BorrowedOctetsRead : {A : Type 0} → (A → List ℕ)
    → Head → ReaderState → Result A Error → ReaderState → Type 0
BorrowedOctetsRead octets_of h s result t =
    Gives (read_slice_outcome (number h.length)) s (map_ok octets_of result) t

abbrev pub OwnedOctetsRead : {A : Type 0} → (A → List ℕ)
    → Head → ReaderState → Result A Error → ReaderState → Type 0
OwnedOctetsRead octets_of h s result t =
    VecMeets true (number h.length) s (map_ok octets_of result) t

abbrev pub BorrowedTextRead : {A : Type 0} → (A → List ℕ)
    → Head → ReaderState → Result A Error → ReaderState → Type 0
BorrowedTextRead octets_of h s result t =
    Gives (text_outcome (number h.length)) s (map_ok octets_of result) t

abbrev pub OwnedTextRead : {A : Type 0} → (A → List ℕ)
    → Head → ReaderState → Result A Error → ReaderState → Type 0
OwnedTextRead octets_of h s result t =
    AnswersOrLacks (text_outcome (number h.length) s).answer (map_ok octets_of result)
    × (t ≡ (text_outcome (number h.length) s).after)

-- if the contents are acceptable as a value, a reliable reader reads one and is then at their end,
-- or reading allocates and an allocation failed
abbrev pub EndsTakenOrLacks : {A : Type 0} → Bool → (List ℕ → Type 0) → (A → List ℕ)
    → Bool → Head → ReaderState → Result A Error → ReaderState → Type 0
EndsTakenOrLacks {A} allocates IsKind octets_of reliable h s result t =
    (v : A) → reliable ≡ true → ContentsNext (TakesOctets IsKind octets_of v) h s
    → s.depth + 0 ≤ 64
    → EndsOrLacks (λ e. is_out_of_memory_kind (kind_of e)) allocates result t

-- the same where no allocation can fail, because there is none
abbrev pub EndsTaken : {A : Type 0} → (List ℕ → Type 0) → (A → List ℕ)
    → Bool → Head → ReaderState → Result A Error → ReaderState → Type 0
EndsTaken = EndsTakenOrLacks false

-- the result of reading a slice from a reader that cannot return slices: an error, and no change
abbrev pub not_borrowed_outcome : ReaderState → Outcome (List ℕ)
not_borrowed_outcome s = outcome_of (Err (error_at Reader (reader_position s))) s

-- a type that reads its octets by `TakesOctets` is lawful, if the number of its tag has 32 bits:
-- decoding inverts encoding
pub octets_lawful : {A : Type 0} (tag : Tag) (IsKind : List ℕ → Type 0) (octets_of : A → List ℕ)
    → (label tag).number < 2 ^ 32
    → IsLawful tag (TakesOctets IsKind octets_of) (λ v. IsKind (octets_of v)) octets_of (λ _. 0)
octets_lawful tag IsKind octets_of numbered =
    record {
      exact = λ octets v short. (λ h. h, λ h. h);
      shallow = omega arith;
      numbered = numbered;
    }

-- the number of octets, and the possible results of writing
abbrev pub octets_size : {A : Type 0} → (A → List ℕ) → A → Result Length Error
octets_size octets_of v = Ok (definite_length (length (octets_of v)))

abbrev pub OctetsWritten : {A : Type 0} → (A → List ℕ) → A → WriterAnswer
OctetsWritten octets_of v s result t = Writes (write_outcome (octets_of v) s) result t
