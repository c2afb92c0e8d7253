-- What the program may print, and the status with it.
use Rattle.std.specs.Prelude.{◌≡◌, ℕ, ◌+◌, ◌-◌, ◌^◌, ◌<◌, ◌≤◌, ◌⊎◌, List, length, take, drop, codes, Option, Some, Ok, Err, string_bytes}
use Rattle.std.specs.Io.KnownBytes.{Appends}
use Rattle.hex.specs.Hex.{decode_of}
use Rattle.der.specs.ScanGrammar.{BodyFault}
use Rattle.der.specs.Prelude.{Head, HeadNext, number, definite_length, byte_order, error_at, error_of_kind, Error, EncodingRules, Ber, Der, OctetString, ElementNext, ElementRead}
use Rattle.der.specs.HeaderGrammar.{HeaderFault}
use Rattle.der.specs.Error.{Refusal, missing_refusal, end_refusal}
use Rattle.der.specs.Text.{error_text}
use Rattle.der.specs.ErrorKinds.{Overflow, TrailingData}
use Rattle.der.specs.Decode.{Whole, WholeAnswer}
use Rattle.der.specs.JoinedOctets.{JoinedRead}
use Rattle.der.specs.Parts.{TakesParts}
use Rattle.der.specs.declared.example.joined_octets.JoinedOctets.{JoinedOctets}
use Rattle.der_tool_lib.specs.ToolCommand.{IsCommand, words_of}
use Rattle.der_tool_lib.specs.PrintedText.{usage_line, error_line, header_lines, octets_line, element_line, order_line}
use Rattle.der_tool_lib.specs.declared.command.ToolCommand.{ToolCommand}
use Rattle.der_tool_lib.specs.declared.command.ToolCommand.TheVariants.{Head as HeadOf, Tlv as TlvOf, Order as OrderOf, Join as JoinOf}
use Rattle.der_tool_lib.specs.declared.answer.Answer.{Answer}
use Rattle.der_tool_lib.specs.declared.answer.Answer.TheVariants as answer

-- the octets fit a length and begin with this header, and `rest` are the octets after it
pub record IsHeaderRead (rules : EncodingRules) (octets : List ℕ) (h : Head) (rest : List ℕ)
    : Type 0 where
  pub countable : length octets < 2 ^ 32
  pub count : ℕ
  pub next : HeadNext h rules octets count
  pub following : rest ≡ drop count octets

-- the octets are too many for a length, or do not begin with a header; the error says which
abbrev pub IsRefusedFor : EncodingRules → List ℕ → Error → Type 0
IsRefusedFor rules octets e =
    ((2 ^ 32 ≤ length octets) × (e ≡ error_of_kind Overflow))
    ⊎ ((r : Refusal) × (length octets < 2 ^ 32) × HeaderFault BodyFault rules 0 octets r
    × (e ≡ r.error))

-- the error after `passed` octets, if others are left up to `end`
abbrev pub trailing_error : ℕ → ℕ → Error
trailing_error passed end =
    error_at (TrailingData (definite_length passed) (definite_length (end - passed)))
    (definite_length passed)

-- the octets fit a length and begin with this element: a header, and the number of octets that its
-- length gives
pub record IsFirstElement (rules : EncodingRules) (octets element : List ℕ) : Type 0 where
  pub countable : length octets < 2 ^ 32
  pub head : Head
  pub count : ℕ
  pub next : HeadNext head rules octets count
  pub there : count + number head.length ≤ length octets
  pub whole : element ≡ take (count + number head.length) octets

-- the octets do not begin with a whole element; the error says why
pub data NoElement (rules : EncodingRules) (octets : List ℕ) : Error → Type 0 where
  no_header : {e : Error} → IsRefusedFor rules octets e → NoElement rules octets e
  past_every_length : (h : Head) (count : ℕ) → length octets < 2 ^ 32
      → HeadNext h rules octets count → 2 ^ 32 ≤ count + number h.length
      → NoElement rules octets (error_of_kind Overflow)
  contents_missing : (h : Head) (count : ℕ) → HeadNext h rules octets count
      → count + number h.length < 2 ^ 32 → length octets < count + number h.length
      → NoElement rules octets (missing_refusal (count + number h.length) (length octets) 0).error

-- the octets fit a length and are exactly one element under DER: a header, and the number of octets
-- that its length gives (X.690 8.1.1)
pub record IsWholeElement (octets : List ℕ) : Type 0 where
  pub countable : length octets < 2 ^ 32
  pub head : Head
  pub count : ℕ
  pub next : HeadNext head Der octets count
  pub whole : count + number head.length ≡ length octets

-- the octets are not exactly one element; the error says why
pub data NoWholeElement (octets : List ℕ) : Error → Type 0 where
  no_header : {e : Error} → IsRefusedFor Der octets e → NoWholeElement octets e
  past_every_length : (h : Head) (count : ℕ) → length octets < 2 ^ 32
      → HeadNext h Der octets count → 2 ^ 32 ≤ count + number h.length
      → NoWholeElement octets (error_of_kind Overflow)
  contents_missing : (h : Head) (count : ℕ) → HeadNext h Der octets count
      → count + number h.length < 2 ^ 32 → length octets < count + number h.length
      → NoWholeElement octets (end_refusal (length octets)).error
  left_after : (h : Head) (count : ℕ) → length octets < 2 ^ 32
      → HeadNext h Der octets count → count + number h.length < length octets
      → NoWholeElement octets (trailing_error (count + number h.length) (length octets))

-- the first is not exactly one element; or the first is, and the second is not; the error says why
pub data NoPair (first second : List ℕ) (e : Error) : Type 0 where
  first_refused : NoWholeElement first e → NoPair first second e
  second_refused : IsWholeElement first → NoWholeElement second e → NoPair first second e

-- the octets fit a length and are exactly one OCTET STRING under BER, and `out` are its contents,
-- or its joined segments (X.690 8.7)
pub record IsJoined (octets out : List ℕ) : Type 0 where
  pub countable : length octets < 2 ^ 32
  pub whole : Whole (ElementNext OctetString (TakesParts OctetString) out) Ber octets

-- the error is forwarded unchanged
abbrev pub ForwardsError : Error → Error → Type 0
ForwardsError given e = e ≡ given

-- the octets are not exactly one OCTET STRING; the error is that of the first step of decoding that
-- fails, or that an allocation failed
abbrev pub NotJoined : List ℕ → Error → Type 0
NotJoined octets e =
    WholeAnswer {A = JoinedOctets} Ber
    (ElementRead OctetString ForwardsError JoinedRead) ForwardsError
    octets (Err e)

-- the lines print the header that the octets begin with
pub record PrintsHeader (rules : EncodingRules) (octets text : List ℕ) : Type 0 where
  pub head : Head
  pub rest : List ℕ
  pub read : IsHeaderRead rules octets head rest
  pub lines : text ≡ header_lines head rest

-- the line prints the error, if its text is known
abbrev pub PrintsError : Error → List ℕ → Type 0
PrintsError e text = (reason : List ℕ) → error_text e ≡ Some reason → text ≡ error_line reason

-- the line prints one of the errors that are possible here
pub record Refuses (IsRefused : Error → Type 0) (text : List ℕ) : Type 0 where
  pub error : Error
  pub reason : List ℕ
  pub refused : IsRefused error
  pub says : error_text error ≡ Some reason
  pub line : text ≡ error_line reason

-- the status and text of `head` for these octets
pub data AnswersHead (rules : EncodingRules) (octets : List ℕ) : ℕ → List ℕ → Type 0 where
  reported : {text : List ℕ} → PrintsHeader rules octets text → AnswersHead rules octets 0 text
  refused : {text : List ℕ} → Refuses (IsRefusedFor rules octets) text
      → AnswersHead rules octets 1 text

-- the line prints the element that the octets begin with
pub record PrintsElement (rules : EncodingRules) (octets text : List ℕ) : Type 0 where
  pub element : List ℕ
  pub read : IsFirstElement rules octets element
  pub line : text ≡ element_line element

-- the status and text of `tlv` for these octets
pub data AnswersTlv (rules : EncodingRules) (octets : List ℕ) : ℕ → List ℕ → Type 0 where
  reported : {text : List ℕ} → PrintsElement rules octets text → AnswersTlv rules octets 0 text
  refused : {text : List ℕ} → Refuses (NoElement rules octets) text → AnswersTlv rules octets 1 text

-- the line prints the byte order of two whole elements (X.690 11.6)
pub record PrintsOrder (first second text : List ℕ) : Type 0 where
  pub first_whole : IsWholeElement first
  pub second_whole : IsWholeElement second
  pub line : text ≡ order_line (byte_order first second)

-- the status and text of `order` for these octets
pub data AnswersOrder (first second : List ℕ) : ℕ → List ℕ → Type 0 where
  reported : {text : List ℕ} → PrintsOrder first second text → AnswersOrder first second 0 text
  refused : {text : List ℕ} → Refuses (NoPair first second) text → AnswersOrder first second 1 text

-- the line prints the joined octets
pub record PrintsJoined (octets text : List ℕ) : Type 0 where
  pub out : List ℕ
  pub read : IsJoined octets out
  pub line : text ≡ octets_line out

-- the status and text of `join` for these octets
pub data AnswersJoin (octets : List ℕ) : ℕ → List ℕ → Type 0 where
  reported : {text : List ℕ} → PrintsJoined octets text → AnswersJoin octets 0 text
  refused : {text : List ℕ} → Refuses (NotJoined octets) text → AnswersJoin octets 1 text

-- the text decodes to octets for which `AnswersTo` holds
pub record ToSpelled (hex : List ℕ) (AnswersTo : List ℕ → Type 0) : Type 0 where
  pub octets : List ℕ
  pub spelled : decode_of hex ≡ Ok octets
  pub answered : AnswersTo octets

-- the status and text of a command, if no allocation fails
abbrev pub Fulfils : ToolCommand → ℕ → List ℕ → Type 0
Fulfils (HeadOf rules hex) status text =
    ToSpelled hex.now (λ octets. AnswersHead rules octets status text)
Fulfils (TlvOf rules hex) status text =
    ToSpelled hex.now (λ octets. AnswersTlv rules octets status text)
Fulfils (OrderOf first second) status text =
    ToSpelled first.now (λ one. ToSpelled second.now (λ other. AnswersOrder one other status text))
Fulfils (JoinOf hex) status text = ToSpelled hex.now (λ octets. AnswersJoin octets status text)

-- the statuses and texts that are possible for these words
pub data Answers (words : List (List ℕ)) : ℕ → List ℕ → Type 0 where
  misused : (IsCommand words → ⊥) → Answers words 2 usage_line
  fulfilled : {status : ℕ} {text : List ℕ} (command : ToolCommand) → words ≡ words_of command
      → Fulfils command status text → Answers words status text
  no_memory : IsCommand words → Answers words 1 (error_line (codes "out of memory"))

-- the output got a whole possible text for these words, and nothing else
abbrev pub WritesAnswer : List (List ℕ) → ℕ → Option (List ℕ) → Option (List ℕ) → Type 0
WritesAnswer words status old new = (text : List ℕ) × Answers words status text
    × Appends old new text

-- the status and the text of a result
abbrev pub status_of : {A : Type 0} → Answer A → ℕ
status_of (answer.Printed lines) = 0
status_of (answer.Refused line) = 1
status_of answer.OutOfMemory = 1
status_of answer.Usage = 2

abbrev pub text_of : {A : Type 0} → Answer A → List ℕ
text_of (answer.Printed lines) = string_bytes lines
text_of (answer.Refused line) = string_bytes line
text_of answer.OutOfMemory = error_line (codes "out of memory")
text_of answer.Usage = usage_line
