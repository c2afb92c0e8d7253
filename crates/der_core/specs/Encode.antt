-- The pieces that are written (`tag_outcome`, `length_outcome`, `header_outcome`), and outcomes of
-- encoding: `ElementWritten` has the cases of an element, `SliceAnswer` and `VecAnswer` those of
-- `encode_to_slice`, and of `encode_to_vec` and `to_der`.
use Rattle.std.specs.Prelude.{◌≡◌, ℕ, ◌+◌, ◌^◌, ◌<◌, ◌≤◌, ◌||◌, true, false, List, [], ◌∷◌, ◌++◌, length, map, Option, Some, None, ◌⊎◌, Result, Ok, Err, take, OnOk, IfOk, IsOk, IsErrAnd, if◌then◌else◌}
use Rattle.std.specs.Int.Digits.{digits_of}
use Rattle.der_base.specs.Length.{number, is_indefinite, definite_length, length_octets}
use Rattle.der_base.specs.Tag.{label, tag_octets}
use Rattle.der_base.specs.Error.{error_at, error_of_kind, kind_of, position_of}
use Rattle.der_base.specs.HeaderGrammar.{head, header_octets}
use Rattle.der_base.specs.Arithmetic.{checked_length, element_count}
use Rattle.der_base.specs.declared.length.Length.{Length}
use Rattle.der_base.specs.declared.tag.Tag.{Tag}
use Rattle.der_base.specs.declared.error.Error.{Error}
use Rattle.der_base.specs.declared.error.ErrorKind.TheVariants.{Failed, Overflow, OutOfMemory}
use Rattle.der_core.specs.Header.{head_of}
use Rattle.der_core.specs.Outcome.{map_ok}
use Rattle.der_core.specs.Writer.{WriterState, WriterOutcome, Fits, fresh_state, writer_position, failed_state, write_pieces, chained_write}
use Rattle.der_core.specs.declared.header.Header.{Header}

abbrev pub WriterAnswer : Type 1
WriterAnswer = WriterState → Result (Unit {0}) Error → WriterState → Type 0

-- a size that is returned is the number of the octets
abbrev pub Counts : List ℕ → Result Length Error → Type 0
Counts octets result = IfOk result (λ l. number l ≡ length octets)

-- there is a size if a length can represent the number of octets
abbrev pub HasSize : {A : Type 0} → List ℕ → Result A Error → Type 0
HasSize octets result = length octets < 2 ^ 32 → IsOk result

-- if a length can represent their number, octets are accepted by a writer that has not failed and
-- has space for them
abbrev pub FitsCounted : WriterState → List ℕ → Result (Unit {0}) Error → Type 0
FitsCounted s octets result = length octets < 2 ^ 32 → Fits s octets result

-- if a length can represent their number, octets are accepted by a buffer that is long enough
abbrev pub FitsInto : {A E : Type 0} → List ℕ → ℕ → Result A E → Type 0
FitsInto octets space result = length octets < 2 ^ 32 → length octets ≤ space → IsOk result

-- if a length can represent their number, octets are appended to a vector of `before` octets,
-- unless the new length exceeds a `usize` or an allocation fails
abbrev pub GrowsBy : {A : Type 0} → List ℕ → ℕ → Result A Error → Type 0
GrowsBy octets before result =
    length octets < 2 ^ 32 → before + length octets < 2 ^ 64
    → IsOk result ⊎ IsErrAnd result (λ e. e ≡ error_of_kind OutOfMemory)

-- the octets of an element: its header and its contents (X.690 8.1.1)
abbrev pub element_octets : Tag → List ℕ → List ℕ
element_octets t contents = header_octets t (length contents) ++ contents

-- octets that are written one by one
abbrev pub single_octets : List ℕ → List (List ℕ)
single_octets octets = map (λ o. o ∷ []) octets

-- the base-128 digits of a number, with bit 8 set on each (X.690 8.1.2.4.2); none for 0
abbrev pub high_digits : ℕ → List ℕ
high_digits n = map (λ d. 128 + d) (digits_of 128 n)

-- the first octet of a length, then all others at once, if there are any (X.690 8.1.3.5)
abbrev pub first_and_others : List ℕ → List (List ℕ)
first_and_others [] = []
first_and_others (o ∷ []) = (o ∷ []) ∷ []
first_and_others (o ∷ p ∷ more) = (o ∷ []) ∷ (p ∷ more) ∷ []

-- the writes of a tag, octet by octet
abbrev pub tag_outcome : Tag → WriterState → WriterOutcome
tag_outcome t = write_pieces (single_octets (tag_octets t))

-- the writes of a length: its first octet, then all others
abbrev pub length_outcome : ℕ → WriterState → WriterOutcome
length_outcome n = write_pieces (first_and_others (length_octets n))

-- the writes of a header: those of the tag, then those of the length
abbrev pub header_outcome : Tag → ℕ → WriterState → WriterOutcome
header_outcome t n s = chained_write (tag_outcome t s).answer (tag_outcome t s).after
    (length_outcome n)

-- after a first result: the rest if it is `Ok`, otherwise its error
abbrev pub ThenAnswer : Result (Unit {0}) Error → WriterState → WriterAnswer → WriterAnswer
ThenAnswer (Ok _) u next s r t = next u r t
ThenAnswer (Err e) u next s r t = (r ≡ Err e) × (t ≡ u)

-- the header has this tag and the number of these contents octets
abbrev pub HeaderOf : Tag → List ℕ → Result Header Error → Type 0
HeaderOf t contents result =
    IfOk result (λ h. ((head_of h).tag ≡ t) × (number (head_of h).length ≡ length contents))

-- the header of a value, by its tag and the number of its contents octets
abbrev pub HeaderAnswer : Tag → Result Length Error → Result Header Error → Type 0
HeaderAnswer t (Ok l) (Ok h) = head_of h ≡ head t l ((label t).constructed || is_indefinite l)
HeaderAnswer t (Ok l) (Err e) = ⊥
HeaderAnswer t (Err e) r = r ≡ Err e

-- the size of an element, by its tag and the number of its contents octets
abbrev pub element_size : Tag → Result Length Error → Result Length Error
element_size t (Ok l) = checked_length (element_count t (number l))
element_size t (Err e) = Err e

-- an element is written: nothing if the number of contents octets is an error; otherwise the
-- header, then the contents
abbrev pub ElementWritten : Tag → Result Length Error → WriterAnswer → WriterAnswer
ElementWritten t (Ok l) contents s r u =
    ThenAnswer (header_outcome t (number l) s).answer (header_outcome t (number l) s).after
    contents s r u
ElementWritten t (Err e) contents s r u = (r ≡ Err e) × (u ≡ s)

-- the result of finishing a writer: the octets written, if it has not failed
abbrev pub finished_answer : WriterState → Result (List ℕ) Error
finished_answer t = if t.failed then Err (error_at Failed (writer_position t)) else Ok t.octets

-- the octets written are the start of a buffer
abbrev pub Begins : {E : Type 0} → List ℕ → Result (Unit {0}) E → List ℕ → Type 0
Begins octets result buf = OnOk result (take (length octets) buf ≡ octets)

-- the result of writing to a new writer over a buffer
abbrev pub FreshAnswer : WriterAnswer → List ℕ → Result (Unit {0}) Error → Type 0
FreshAnswer answers buffer result =
    (reference : ℕ) × (t : WriterState) × answers (fresh_state buffer reference) result t

-- the result of finishing a writer after a first result: that result's error, if it is one
abbrev pub closing_answer : Result (Unit {0}) Error → WriterState → Result (List ℕ) Error
closing_answer (Ok _) t = finished_answer t
closing_answer (Err e) t = Err e

-- the result of writing to a new writer over a buffer and finishing it
abbrev pub SliceAnswer : WriterAnswer → List ℕ → Result (List ℕ) Error → Type 0
SliceAnswer answers buffer result =
    (reference : ℕ) × (r : Result (Unit {0}) Error) × (t : WriterState)
    × answers (fresh_state buffer reference) r t × (result ≡ closing_answer r t)

-- the result of appending an encoding, with this size and these outcomes, to `before` octets: no
-- size; more octets than a vector can have; a failed allocation; otherwise the result of writing
-- into the new space, and the number of octets written
pub data VecAnswer (size : Result Length Error) (answers : WriterAnswer) (before : ℕ)
    (result : Result Length Error) : Type 0 where
  no_size : (e : Error) → size ≡ Err e → result ≡ Err e → VecAnswer size answers before result
  too_many : (l : Length) → size ≡ Ok l → 2 ^ 64 ≤ before + number l
      → result ≡ Err (error_of_kind Overflow) → VecAnswer size answers before result
  no_memory : (l : Length) → size ≡ Ok l → before + number l < 2 ^ 64
      → result ≡ Err (error_of_kind OutOfMemory) → VecAnswer size answers before result
  written : (l : Length) (buffer : List ℕ) (reference : ℕ) (r : Result (Unit {0}) Error)
      (t : WriterState)
      → size ≡ Ok l → before + number l < 2 ^ 64 → length buffer ≡ number l
      → answers (fresh_state buffer reference) r t
      → result ≡ map_ok (λ _. definite_length (number l)) r → VecAnswer size answers before result

-- an error with its position, or this one if it has none
abbrev pub placed_error : Option Length → Length → Error → Error
placed_error None p e = error_at (kind_of e) p
placed_error (Some _) p e = e

-- an error with its position, or the writer's if it has none
abbrev pub positioned_error : Option Length → WriterState → Error → Error
positioned_error known t = placed_error known (writer_position t)

abbrev pub positioned_answer : WriterState → Result (Unit {0}) Error → Result (Unit {0}) Error
positioned_answer t (Ok u) = Ok u
positioned_answer t (Err e) = Err (positioned_error (position_of e) t e)

-- the writer, failed if there was an error
abbrev pub writer_after : Result (Unit {0}) Error → WriterState → WriterState
writer_after (Ok _) t = t
writer_after (Err e) t = failed_state t

-- a writer that had failed returns `Failed` at its position and is unchanged
abbrev pub RefusesFailed : WriterAnswer
RefusesFailed s result u = s.failed ≡ true → (result ≡ Err (error_at Failed (writer_position s)))
    × (u ≡ s)

-- the outcome of encoding a value by a slice writer that has not failed: an error without a
-- position gets that of the writer, and each error leaves the writer failed
abbrev pub PlacesErrors : WriterAnswer → WriterAnswer
PlacesErrors answers s result u =
    s.failed ≡ false → (r : Result (Unit {0}) Error) × (t : WriterState)
    × answers s r t × (result ≡ positioned_answer t r) × (u ≡ writer_after r t)
