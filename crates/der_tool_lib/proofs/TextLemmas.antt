-- Each error has a text.
use Rattle.std.proofs.Common.{◌≡◌, ℕ, ◌+◌, ◌-◌, min, ◌++◌, ◌^◌, ◌==◌, nat_lt, List, length, [], ◌∷◌, Option, Some, refl, inl, inr}
use Rattle.std.proofs.lemmas.Bool.{cases_Bool}
use Rattle.der.specs.Prelude.{length_octets, Head, byte_order, kind_of, position_of, number, Error, EncodingRules, Der}
use Rattle.der.specs.ScanGrammar.{NoBodyFault, passed_steps, ScanFault, BodyFault}
use Rattle.der.specs.HeaderGrammar.{LengthFault, HeaderFault}
use Rattle.der.specs.Tag.{IdentifierFault}
use Rattle.der.specs.Error.{Refusal, refusal, missing_refusal}
use Rattle.der.specs.Text.{kind_text, position_text, error_text}
use Rattle.der.specs.ErrorKinds.{ErrorKind}
use Rattle.der_tool_lib.specs.PrintedText.{header_lines, element_line, order_line}
use Rattle.der_tool_lib.specs.Answer.{IsHeaderRead, IsRefusedFor, PrintsError, AnswersHead, IsFirstElement, NoElement, AnswersTlv, IsWholeElement, NoWholeElement, NoPair, AnswersOrder}

abbrev pub HasText : Option (List ℕ) → Type 0
HasText printed = (text : List ℕ) × (printed ≡ Some text)

error_text_of_kind : (e : Error) → HasText (kind_text (kind_of e)) → HasText (error_text e)
error_text_of_kind e (t, is) = (t ++ position_text (position_of e), rw is refl)

pub missing_printed : (expected actual p : ℕ) → HasText (error_text (missing_refusal expected actual p).error)
missing_printed expected actual p =
    elim (cases_Bool (nat_lt expected (2 ^ 32))) [
      | inl near ↦ rw near (_, refl)
      | inr far ↦ rw far (_, refl)
    ]

identifier_text : {rules : EncodingRules} {at : ℕ} {s : List ℕ} {r : Refusal} → IdentifierFault rules at s r → HasText (error_text r.error)
identifier_text {at = at} (IdentifierFault.cut s c) = missing_printed (at + length s + 1) (at + length s) (at + length s)
identifier_text {at = at} (IdentifierFault.refused [] o rest c n) =
    elim (cases_Bool (o == 31)) [
      | inl long ↦ rw long (_, refl)
      | inr unknown ↦ rw unknown (_, refl)
    ]
identifier_text (IdentifierFault.refused (first ∷ s) o rest c n) = (_, refl)

-- the error of each fault of contents has a text
abbrev BodyText : (ℕ → List ℕ → Refusal → Type 0) → Type 0
BodyText Fault = (at : ℕ) (s : List ℕ) (r : Refusal) → Fault at s r → HasText (error_text r.error)

length_text : {Fault : ℕ → List ℕ → Refusal → Type 0} {wrong : ErrorKind} {rules : EncodingRules} {at : ℕ} {s : List ℕ} {r : Refusal} → BodyText Fault → HasText (kind_text wrong) → LengthFault Fault wrong rules at s r
    → HasText (error_text r.error)
length_text {at = at} body t LengthFault.nothing = missing_printed (at + 1) at at
length_text {at = at} body t (LengthFault.few k ds a b) = missing_printed (at + 1 + length ds + 1) (at + 1 + length ds) (at + 1 + length ds)
length_text {wrong = wrong} {at = at} body t (LengthFault.far o rest a) = error_text_of_kind (refusal wrong (at + 1)).error t
length_text {wrong = wrong} {at = at} body t (LengthFault.longer k ds rest a b c d) = error_text_of_kind (refusal wrong (at + 1 + k)).error t
length_text body t (LengthFault.indefinite_form der rest) = (_, refl)
length_text {at = at} body t (LengthFault.no_body {r = r} ber rest f) = body (at + 1) rest r f

no_body_text : BodyText NoBodyFault
no_body_text at s r f = absurd f

scan_text : {level at : ℕ} {s : List ℕ} {r : Refusal} → ScanFault level at s r → HasText (error_text r.error)
scan_text {at = at} ScanFault.nothing = missing_printed (at + 1) at at
scan_text {at = at} ScanFault.half_eoc = missing_printed (at + 1 + 1) (at + 1) (at + 1)
scan_text (ScanFault.no_eoc o rest ne) = (_, refl)
scan_text {at = at} (ScanFault.refused_identifier s o rest ne c n) = identifier_text {at = at} (IdentifierFault.refused s o rest c n)
scan_text {at = at} (ScanFault.cut_identifier o s c) = identifier_text {at = at} (IdentifierFault.cut (o ∷ s) c)
scan_text (ScanFault.primitive rest d) = (_, refl)
scan_text (ScanFault.too_deep rest deep d) = (_, refl)
scan_text (ScanFault.no_length d f) = length_text no_body_text (_, refl) f
scan_text {at = at} (ScanFault.short {id = id} n rest d small less) =
    let there = at + length id + length (length_octets n) in
    missing_printed (there + passed_steps (length rest) + min 16 (n - passed_steps (length rest))) (there + length rest) (there + passed_steps (length rest))

body_text : BodyText BodyFault
body_text at s r f = scan_text f.stops

pub header_text : {rules : EncodingRules} {at : ℕ} {s : List ℕ} {r : Refusal} → HeaderFault BodyFault rules at s r → HasText (error_text r.error)
header_text (HeaderFault.no_identifier f) = identifier_text f
header_text (HeaderFault.no_length i f) = length_text body_text (_, refl) f
header_text (HeaderFault.primitive i l f) = (_, refl)

module _ (rules : EncodingRules) (octets : List ℕ) where
  -- each error of a header has a text
  refused_text : (e : Error) → IsRefusedFor rules octets e → HasText (error_text e)
  refused_text e (inl (long, reported)) = rw reported (_, refl)
  refused_text e (inr (r, small, fault, reported)) = rw reported (header_text fault)

  pub head_reports : (text rest : List ℕ) (h : Head) → IsHeaderRead rules octets h rest → text ≡ header_lines h rest → AnswersHead rules octets 0 text
  head_reports text rest h read lines = AnswersHead.reported record { head = h; rest = rest; read = read; lines = lines }

  pub answer_refused : (text : List ℕ) (e : Error) → IsRefusedFor rules octets e → PrintsError e text → AnswersHead rules octets 1 text
  answer_refused text e refused reports =
      let printed = refused_text e refused in
      AnswersHead.refused record { error = e; reason = printed.0; refused = refused; says = printed.1; line = reports printed.0 printed.1 }

  -- each error of a missing element has a text
  missing_text : (e : Error) → NoElement rules octets e → HasText (error_text e)
  missing_text e (NoElement.no_header refused) = refused_text e refused
  missing_text e (NoElement.past_every_length h count small next far) = (_, refl)
  missing_text e (NoElement.contents_missing h count next near few) = missing_printed (count + number h.length) (length octets) 0

  pub tlv_reports : (text element : List ℕ) → IsFirstElement rules octets element → text ≡ element_line element → AnswersTlv rules octets 0 text
  tlv_reports text element read line = AnswersTlv.reported record { element = element; read = read; line = line }

  pub element_refused : (text : List ℕ) (e : Error) → NoElement rules octets e → PrintsError e text → AnswersTlv rules octets 1 text
  element_refused text e refused reports =
      let printed = missing_text e refused in
      AnswersTlv.refused record { error = e; reason = printed.0; refused = refused; says = printed.1; line = reports printed.0 printed.1 }

-- each error of octets that are not exactly one element has a text, for one and for two inputs
whole_text : (octets : List ℕ) (e : Error) → NoWholeElement octets e → HasText (error_text e)
whole_text octets e (NoWholeElement.no_header refused) = refused_text Der octets e refused
whole_text octets e (NoWholeElement.past_every_length h count small next far) = (_, refl)
whole_text octets e (NoWholeElement.contents_missing h count next near few) = missing_printed (length octets + 1) (length octets) (length octets)
whole_text octets e (NoWholeElement.left_after h count small next less) = (_, refl)

pair_text : (first second : List ℕ) (e : Error) → NoPair first second e → HasText (error_text e)
pair_text first second e (NoPair.first_refused refused) = whole_text first e refused
pair_text first second e (NoPair.second_refused is refused) = whole_text second e refused

pub order_reports : (text first second : List ℕ) → IsWholeElement first × IsWholeElement second → text ≡ order_line (byte_order first second) → AnswersOrder first second 0 text
order_reports text first second are line = AnswersOrder.reported record { first_whole = are.0; second_whole = are.1; line = line }

pub order_refused : (text first second : List ℕ) (e : Error) → NoPair first second e → PrintsError e text → AnswersOrder first second 1 text
order_refused text first second e refused reports =
    let printed = pair_text first second e refused in
    AnswersOrder.refused record { error = e; reason = printed.0; refused = refused; says = printed.1; line = reports printed.0 printed.1 }
