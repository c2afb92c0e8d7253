-- Outcomes of decoding: `Decodes`, `Peeks` and `Accepts` for a grammar, by `Passes` and
-- `IsRefusedBy`; for any type the cases of `decode`, `from_der`, `from_ber` and `from_der_partial`,
-- of `tlv_bytes`, and of `peek_matches`.
use Rattle.std.specs.Prelude.{◌≡◌, ℕ, ◌^◌, ◌<◌, ◌≤◌, ◌⊎◌, Bool, true, false, List, length, Result, Ok, Err, IsOk, IfOk, IsErr, IfErr, IsErrAnd, IsTrue, ◌↔◌, ◌+◌}
use Rattle.der_base.specs.Error.{error_at, error_of_kind, Refusal}
use Rattle.der_base.specs.Length.{number, definite_length}
use Rattle.der_base.specs.Tag.{label, IdentifierFault}
use Rattle.der_base.specs.ScanGrammar.{BodyFault}
use Rattle.der_base.specs.HeaderGrammar.{TagNext, HeaderFault}
use Rattle.der_base.specs.declared.tag.Tag.{Tag}
use Rattle.der_base.specs.declared.error.Error.{Error}
use Rattle.der_base.specs.declared.error.ErrorKind.{ErrorKind}
use Rattle.der_base.specs.declared.error.ErrorKind.TheVariants.{Failed, Overflow, OutOfMemory}
use Rattle.der_base.specs.declared.encoding_rules.EncodingRules.{EncodingRules}
use Rattle.der_core.specs.ReaderState.{ReaderState, initial_state, rest_of, reader_position, advanced_state, stopped_state, state_after, Same}
use Rattle.der_core.specs.Outcome.{Gives}
use Rattle.der_core.specs.Reader.{finish_answer, tlv_outcome}
use Rattle.der_core.specs.Header.{head_of, HeaderNext}
use Rattle.der_core.specs.declared.header.Header.{Header}

-- whether a kind reports a failed allocation
abbrev pub is_out_of_memory_kind : ErrorKind → Bool
is_out_of_memory_kind OutOfMemory = true
is_out_of_memory_kind _ = false

-- the next octets satisfy `Next`, and the reader has consumed them
pub record Passes (Next : EncodingRules → List ℕ → ℕ → Type 0) (s t : ReaderState) : Type 0 where
  pub octets : ℕ
  pub working : s.failed ≡ false
  pub next : Next s.rules (rest_of s) octets
  pub there : octets ≤ length (rest_of s)
  pub leaves : t ≡ record s { position = s.position + octets }

-- an error: a reader that had failed is unchanged; otherwise the next octets have a fault, which is
-- returned
pub data IsRefusedBy (Fault : EncodingRules → ℕ → List ℕ → Refusal → Type 0) (s : ReaderState)
    (e : Error) (t : ReaderState) : Type 0 where
  has_failed : s.failed ≡ true → e ≡ error_at Failed (definite_length s.position) → t ≡ s
      → IsRefusedBy Fault s e t
  at_fault : (r : Refusal) → s.failed ≡ false → Fault s.rules s.position (rest_of s) r → e ≡ r.error
      → t ≡ state_after s r → IsRefusedBy Fault s e t

-- the outcome of a decoder of a grammar, by its values (`Next`) and its faults: it leaves the same
-- reader; a value that it returns was next and is consumed; an error of a reliable reader is a
-- fault of the next octets
pub record Decodes {A : Type 0} (Next : A → EncodingRules → List ℕ → ℕ → Type 0)
    (Fault : EncodingRules → ℕ → List ℕ → Refusal → Type 0) (reliable : Bool) (s : ReaderState)
    (answer : Result A Error) (t : ReaderState) : Type 0 where
  pub same : Same s t
  pub ok : IfOk answer (λ v. Passes (Next v) s t)
  pub refused : reliable ≡ true → IfErr answer (λ e. IsRefusedBy Fault s e t)

-- a peek returns what decoding would; the reader does not move
abbrev pub Peeks : {A : Type 0} → (A → EncodingRules → List ℕ → ℕ → Type 0)
    → (EncodingRules → ℕ → List ℕ → Refusal → Type 0) → Bool → ReaderState → Result A Error → Type 0
Peeks Next Fault reliable s answer = (t : ReaderState) × Decodes Next Fault reliable s answer t

-- on a reliable reader that has not failed, a decoder returns the next value
abbrev pub Accepts : {A : Type 0} → (A → EncodingRules → List ℕ → ℕ → Type 0)
    → (EncodingRules → ℕ → List ℕ → Refusal → Type 0) → Type 0
Accepts {A} Next Fault =
    (s t : ReaderState) (answer : Result A Error) (v : A) (m : ℕ)
    → Decodes Next Fault true s answer t → s.failed ≡ false
    → Next v s.rules (rest_of s) m → (answer ≡ Ok v) × (t ≡ advanced_state s m)

-- the number of nesting levels that tags, lengths and headers require: none, since a body is
-- scanned without entering it
abbrev pub grammar_levels : EncodingRules → ℕ
grammar_levels rules = 0

-- a decoder succeeds, or it allocates and an allocation failed
abbrev pub SucceedsOrLacks : {A E : Type 0} → (E → Bool) → Bool → Result A E → Type 0
SucceedsOrLacks out_of_memory allocates result =
    IsOk result ⊎ ((allocates ≡ true) × IsErrAnd result (λ e. out_of_memory e ≡ true))

-- a decoder succeeds and consumes m octets, or it allocates and an allocation failed
abbrev pub ReadsOrLacks : {A E : Type 0}
    → (E → Bool) → Bool → ReaderState → ℕ → Result A E → ReaderState → Type 0
ReadsOrLacks out_of_memory allocates s m result t =
    (IsOk result × (t ≡ advanced_state s m))
    ⊎ ((allocates ≡ true) × IsErrAnd result (λ e. out_of_memory e ≡ true))

-- decoding of a byte slice: an overflow if it is too long, otherwise the result that `Follows`
-- derives from the decoder's result
pub data BytesAnswer {A B E : Type 0} (rules : EncodingRules)
    (answers : ReaderState → Result A E → ReaderState → Type 0) (converts : Error → E → Type 0)
    (Follows : Result A E → ReaderState → Result B E → Type 0) (octets : List ℕ)
    (result : Result B E) : Type 0 where
  too_long : 2 ^ 32 ≤ length octets → IsErrAnd result (λ e. converts (error_of_kind Overflow) e)
      → BytesAnswer rules answers converts Follows octets result
  decoded : (answer : Result A E) (t : ReaderState) → length octets < 2 ^ 32
      → answers (initial_state rules octets) answer t → Follows answer t result
      → BytesAnswer rules answers converts Follows octets result

-- the result of `from_der_partial`, given that of its decoder: the decoder's error; the value and
-- the remaining octets; or `Failed` if the reader has failed
abbrev pub PartialThen : {A E : Type 0}
    → (Error → E → Type 0) → Result A E → ReaderState → Result (A × List ℕ) E → Type 0
PartialThen converts (Err e) t result = result ≡ Err e
PartialThen converts (Ok v) t result =
    ((t.failed ≡ false) × (result ≡ Ok (v, rest_of t)))
    ⊎ ((t.failed ≡ true) × IsErrAnd result (λ e. converts (error_at Failed (reader_position t)) e))

-- the result of `from_der` and `from_ber`, given that of their decoder: the decoder's error; the
-- error of finishing the reader; or the value
abbrev pub WholeThen : {A E : Type 0}
    → (Error → E → Type 0) → Result A E → ReaderState → Result A E → Type 0
WholeThen converts (Err e) t result = result ≡ Err e
WholeThen converts (Ok v) t result =
    ((finish_answer t ≡ Ok tt) × (result ≡ Ok v))
    ⊎ ((e : Error) × (finish_answer t ≡ Err e) × IsErrAnd result (λ f. converts e f))

-- the cases of `from_der_partial`, which returns a value at the start of the octets, and of
-- `from_der` and `from_ber`, which return one that is all of the octets
abbrev pub PartialAnswer : {A E : Type 0} → EncodingRules
    → (ReaderState → Result A E → ReaderState → Type 0)
    → (Error → E → Type 0) → List ℕ → Result (A × List ℕ) E → Type 0
PartialAnswer rules answers converts = BytesAnswer rules answers converts (PartialThen converts)

abbrev pub WholeAnswer : {A E : Type 0} → EncodingRules
    → (ReaderState → Result A E → ReaderState → Type 0)
    → (Error → E → Type 0) → List ℕ → Result A E → Type 0
WholeAnswer rules answers converts = BytesAnswer rules answers converts (WholeThen converts)

-- all of the octets satisfy `Next`
abbrev pub Whole : (EncodingRules → List ℕ → ℕ → Type 0) → EncodingRules → List ℕ → Type 0
Whole Next rules octets = Next rules octets (length octets)

-- the cases of `tlv_bytes`, the octets of a whole element: its header is peeked at first, and an
-- error of this leaves the reader unchanged; then header and contents are read together, as by
-- `tlv_outcome`
pub data TlvAnswer (s : ReaderState) (answer : Result (List ℕ) Error) (t : ReaderState)
    : Type 0 where
  no_header : (e : Error) → Peeks HeaderNext (HeaderFault BodyFault) true s (Err e)
      → answer ≡ Err e → t ≡ s
      → TlvAnswer s answer t
  with_header : (h : Header) (m : ℕ) → HeaderNext h s.rules (rest_of s) m → s.failed ≡ false
      → Gives (tlv_outcome (m + number (head_of h).length)) s answer t → TlvAnswer s answer t

-- the cases of a reader's `decode`: a failed reader returns an error, and every error leaves the
-- reader failed; a reliable reader also returns exactly the decoder's result
pub data ReaderDecodes {A E : Type 0} (reliable : Bool)
    (answers : ReaderState → Result A E → ReaderState → Type 0) (converts : Error → E → Type 0)
    (s : ReaderState)
    (result : Result A E) (t : ReaderState) : Type 0 where
  had_failed : s.failed ≡ true
      → IsErrAnd result (λ e. converts (error_at Failed (reader_position s)) e)
      → t ≡ stopped_state s s.position → ReaderDecodes reliable answers converts s result t
  decodes : s.failed ≡ false → IsOk result → (reliable ≡ true → answers s result t)
      → ReaderDecodes reliable answers converts s result t
  refuses : (u : ReaderState) → s.failed ≡ false → IsErr result
      → (reliable ≡ true → answers s result u)
      → t ≡ stopped_state u u.position → ReaderDecodes reliable answers converts s result t

-- the cases of `peek_matches`: whether the next tag has this class and number; a finished reader
-- has no next tag
pub data MatchAnswer (class number : ℕ) (s : ReaderState) (answer : Result Bool Error)
    : Type 0 where
  finished : s.position ≡ s.end → answer ≡ Ok false → MatchAnswer class number s answer
  next_tag_is : (t : Tag) (matches : Bool) → Peeks TagNext IdentifierFault true s (Ok t)
      → answer ≡ Ok matches
      → (IsTrue matches ↔ (((label t).class ≡ class) × ((label t).number ≡ number)))
      → MatchAnswer class number s answer
  no_tag : (e : Error) → s.position < s.end → Peeks TagNext IdentifierFault true s (Err e)
      → answer ≡ Err e → MatchAnswer class number s answer
