-- What a call of `der_expect` that answers kind 0, or another kind, implies.
use Rattle.std.proofs.Common.{◌≡◌, ◌≢◌, ℕ, ◌==◌, Bool, true, false, List, [], ◌∷◌, get_or, refl, sym, ap, ◌∙◌, ⊎_elim, arith}
use Rattle.std.proofs.lemmas.Bool.{cases_eq, ne_eqb, eqb-true}
use Rattle.der_asn1.specs.Forms.{boolean_form, null_form}
use Rattle.der_c_values.specs.ValueContents.{boolean_contents, null_contents}
use Rattle.der_base.specs.HeaderGrammar.{Head}
use Rattle.der_base.specs.Error.{error_of_kind}
use Rattle.der_base.specs.declared.error.Error.{Error}
use Rattle.der_base.specs.declared.error.ErrorKind.TheVariants.{TagNumberInvalid}
use Rattle.der_core.specs.ReaderState.{ReaderState}
use Rattle.der_c_core.specs.ErrorCode.{no_error, error_code}
use Rattle.der_c_core.specs.ElementCalls.{ExpectsElement, RefusesTag, unexpected, no_tag, no_header, other_tag, following, ReadsContents, there, missing}
use Rattle.der_c_core.specs.declared.error.DerError.{DerError}
use Rattle.der_c_core.specs.declared.element.DerElement.{DerElement}
use Rattle.der_c_core.proofs.ReadLemmas.{code_some, fails_some, contents_kind_zero}

-- an error that is reported has a kind
pub refused_some : {r : DerError} {A : Type 0} (e : Error) → r ≡ error_code e → r.kind ≡ 0 → A
refused_some e reported none = absurd (code_some e (sym (ap (λ (c : DerError). c.kind) reported) ∙ none))

-- a tag that is refused is an error
tag_some : {word actual : ℕ} {s t : ReaderState} {r : DerError} {A : Type 0} → RefusesTag word actual s r t → r.kind ≡ 0 → A
tag_some {r = r} (unexpected tag is reported stays) none = absurd (let k : r.kind ≡ 17 = ap (λ (c : DerError). c.kind) reported in omega arith)
tag_some (no_tag never reported stopped) none = refused_some (error_of_kind TagNumberInvalid) reported none

-- a result of kind 0 is no error
pub expect_kind_zero : {word : ℕ} {s t : ReaderState} {r : DerError} {old e : DerElement} → ExpectsElement word s r old e t → r.kind ≡ 0 → r ≡ no_error
expect_kind_zero (no_header fails same) none = fails_some fails none
expect_kind_zero (other_tag h u passed differs refuses same) none = tag_some refuses none
expect_kind_zero (following h u passed is contents) none = contents_kind_zero contents none

contents_same : {h : Head} {from : ℕ} {s t : ReaderState} {r : DerError} {old e : DerElement} → ReadsContents h from s r old e t → r ≢ no_error → e ≡ old
contents_same (there octets given reported element) some = absurd (some reported)
contents_same (missing fails same) some = same

-- an error leaves the element unchanged
pub expect_same : {word : ℕ} {s t : ReaderState} {r : DerError} {old e : DerElement} → ExpectsElement word s r old e t → r ≢ no_error → e ≡ old
expect_same (no_header fails same) some = same
expect_same (other_tag h u passed differs refuses same) some = same
expect_same (following h u passed is contents) some = contents_same contents some

-- a result of another kind is an error
pub kind_some : {r : DerError} → r.kind ≢ 0 → r ≢ no_error
kind_some some none = some (ap (λ (c : DerError). c.kind) none)

-- the value of the contents of a BOOLEAN
pub boolean_value : (octets : List ℕ) → boolean_form octets ≡ true → boolean_contents (get_or octets 0 0 == 255) ≡ octets
boolean_value [] form = absurd (let no : false ≡ true = form in cc)
boolean_value (o ∷ []) form =
    ⊎_elim (λ z. rw z refl) (λ other. let is : o ≡ 255 = eqb-true o 255 (rw (ne_eqb o 0 other) at form) in rw is refl) (cases_eq o 0)
boolean_value (o ∷ p ∷ os) form = absurd (let no : false ≡ true = form in cc)

-- contents without octets
pub null_value : (octets : List ℕ) → null_form octets ≡ true → null_contents tt ≡ octets
null_value [] form = refl
null_value (o ∷ os) form = absurd (let no : false ≡ true = form in cc)

-- a test that holds only if false does
pub not_true : {b : Bool} → (b ≡ true → false ≡ true) → b ≡ false
not_true {b = false} h = refl
not_true {b = true} h = sym (h refl)
