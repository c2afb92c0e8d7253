-- What a call of a writer that answers kind 0 implies, and which octets decide a BIT STRING.
use Rattle.std.proofs.Common.{◌≡◌, ◌≢◌, ℕ, ℤ, Bool, true, false, if◌then◌else◌, sym, suc, ◌-◌, ◌≤◌, List, [], ◌∷◌, length, get_or, Result, Ok, Err, refl, ap, ◌∙◌, arith}
use Rattle.der_base.specs.declared.error.Error.{Error}
use Rattle.der_base.specs.Error.{error_at, error_of_kind}
use Rattle.der_base.specs.declared.error.ErrorKind.TheVariants.{Failed, TagNumberInvalid}
use Rattle.der_core.specs.Writer.{WriterState, writer_position}
use Rattle.der_asn1.specs.Forms.{bits_form, has_low_zeros}
use Rattle.der_c_core.specs.ErrorCode.{error_code, no_error}
use Rattle.der_c_core.specs.CReader.{answer_code}
use Rattle.der_c_core.specs.WriterCalls.{WritesElement, WritesOctets, WritesHeader, no_tag, of_tag, too_long}
use Rattle.der_c_core.specs.declared.error.DerError.{DerError}
use Rattle.der_c_values.specs.ValueCalls.{value_code}
use Rattle.der_c_values.specs.TimeValues.{WritesSeconds, no_date, no_value, of_value}
use Rattle.der_c_values.specs.WriteCalls.{RefusesNoValue, of_tag, no_tag}
use Rattle.der_c_values.proofs.ValueLemmas.{refused_some}

answer_kind_zero : (answer : Result (Unit {0}) Error) {r : DerError} → r ≡ answer_code answer → r.kind ≡ 0 → r ≡ no_error
answer_kind_zero (Ok v) reported none = reported
answer_kind_zero (Err e) reported none = refused_some e reported none

-- a result of kind 0 is no error
pub octets_kind_zero : {octets : List ℕ} {s t : WriterState} {r : DerError} → WritesOctets octets s r t → r.kind ≡ 0 → r ≡ no_error
octets_kind_zero written none = answer_kind_zero written.answer written.reported none

pub header_kind_zero : {word n : ℕ} {s t : WriterState} {r : DerError} → WritesHeader word n s r t → r.kind ≡ 0 → r ≡ no_error
header_kind_zero (no_tag none refused) zero = refused_some _ refused.reported zero
header_kind_zero (of_tag tag answer is writes reported) zero = answer_kind_zero answer reported zero

pub element_kind_zero : {word : ℕ} {contents : List ℕ} {s t : WriterState} {r : DerError} → WritesElement word contents s r t → r.kind ≡ 0 → r ≡ no_error
element_kind_zero (too_long long refused) zero = refused_some _ refused.reported zero
element_kind_zero (no_tag none few refused) zero = refused_some _ refused.reported zero
element_kind_zero (of_tag tag answer is few written reported) zero = answer_kind_zero answer reported zero

-- what is refused has an error
refused_kind : (failed : Bool) (e : Error) (code : DerError) {r : DerError} → code.kind ≢ 0 → r ≡ (if failed then error_code e else code) → r.kind ≡ 0 → r ≡ no_error
refused_kind true e code some reported zero = refused_some e reported zero
refused_kind false e code some reported zero = absurd (some (ap (λ (c : DerError). c.kind) (sym reported) ∙ zero))

no_value_kind : {word : ℕ} {s t : WriterState} {r : DerError} → RefusesNoValue word s r t → r.kind ≡ 0 → r ≡ no_error
no_value_kind {word} {s = s} (of_tag tag is refused) zero = refused_kind s.failed (error_at Failed (writer_position s)) (value_code word) (λ e. absurd (let no : 21 ≡ 0 = e in cc)) refused.reported zero
no_value_kind {s = s} (no_tag none refused) zero = refused_kind s.failed (error_at Failed (writer_position s)) (error_code (error_of_kind TagNumberInvalid)) (λ e. absurd (let no : 16 ≡ 0 = e in cc)) refused.reported zero

pub seconds_kind_zero : {time_type word : ℕ} {seconds : ℤ} {s t : WriterState} {r : DerError} → WritesSeconds time_type seconds word s r t → r.kind ≡ 0 → r ≡ no_error
seconds_kind_zero (no_date outside refused) zero = no_value_kind refused zero
seconds_kind_zero (no_value t is same none refused) zero = no_value_kind refused zero
seconds_kind_zero (of_value t is same written) zero = element_kind_zero written zero

last_decides : (n : ℕ) (os : List ℕ) → 1 ≤ length os → has_low_zeros n (get_or os (length os - 1) 0 ∷ []) ≡ has_low_zeros n os
last_decides n [] h = absurd (omega arith)
last_decides n (o ∷ []) h = refl
last_decides n (o ∷ p ∷ os) h =
    let e : length (o ∷ p ∷ os) - 1 ≡ suc (length (p ∷ os) - 1) = omega arith in
    ap (λ k. has_low_zeros n (get_or (o ∷ p ∷ os) k 0 ∷ [])) e ∙ last_decides n (p ∷ os) (omega arith)

-- the last octet alone decides whether octets with unused bits are a BIT STRING
pub last_bits : (n : ℕ) (os : List ℕ) → 1 ≤ length os → bits_form (n ∷ get_or os (length os - 1) 0 ∷ []) ≡ bits_form (n ∷ os)
last_bits n os h = rw (last_decides n os h) refl
