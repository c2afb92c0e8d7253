-- What reading an element with a tag does, by what is known of it if the tag matches.
use Rattle.std.proofs.Common.{◌≡◌, ◌≢◌, ℕ, Result, Ok, Err, Bool, true, false, refl, sym, ap, ◌∙◌, subst}
use Rattle.der_base.specs.declared.tag.Tag.{Tag}
use Rattle.der_core.specs.ReaderState.{ReaderState}
use Rattle.der_core.specs.Decode.{Passes}
use Rattle.der_core.specs.Header.{head_of, HeaderNext}
use Rattle.der_core.specs.declared.header.Header.{Header}
use Rattle.der_c_core.specs.ErrorCode.{no_error}
use Rattle.der_c_core.specs.TagWord.{tag_word, IsTagWord, NoTagWord}
use Rattle.der_c_core.specs.ElementCalls.{ReadsContents, there, missing, ExpectsElement, RefusesTag, unexpected, no_tag, FindsOptional, absent, found, MeetsElement, met, cut, no_header, other_tag, following}
use Rattle.der_c_core.specs.declared.error.DerError.{DerError}
use Rattle.der_c_core.specs.declared.element.DerElement.{DerElement}
use Rattle.der_c_core.proofs.ReadLemmas.{fails_some}

abbrev pub word_found : ℕ → Result ℕ DerError
word_found m = Ok m

abbrev refused_by : DerError → Result ℕ DerError
refused_by r = Err r

-- contents were read after a header with the tag
module _ {word : ℕ} {s u t : ReaderState} {r : DerError} {old new : DerElement} (h : Header) (passed : Passes (HeaderNext h) s u) (same : tag_word (head_of h).tag ≡ word) where
  pub contents_meet : {m : ℕ} → m ≡ word → ReadsContents (head_of h) s.position u r old new t → r.kind ≡ 0 → MeetsElement word s (Ok m) old new t
  contents_meet e (there octets given reported element) none = met h u octets passed same (ap word_found e) given element
  contents_meet e (missing fails kept) none = fails_some fails none

  pub contents_cut : ReadsContents (head_of h) s.position u r old new t → r.kind ≢ 0 → MeetsElement word s (Err r) old new t
  contents_cut (there octets given reported element) some = absurd (some (ap (λ (c : DerError). c.kind) reported))
  contents_cut (missing fails kept) some = cut h u r passed same refl fails kept

ok_apart : {m : ℕ} {r : DerError} {A : Type 0} → word_found m ≡ refused_by r → A
ok_apart {m} {r} e = absurd (let no : word_found m ≡ refused_by r = e in cc)

ok_same : {m n : ℕ} → word_found m ≡ word_found n → m ≡ n
ok_same e = cc

error_same : {q r : DerError} → refused_by q ≡ refused_by r → q ≡ r
error_same e = cc

-- a refusal of a tag says that the tag is none, if it is
finds_refusal : {word m : ℕ} {s v : ReaderState} {old new : DerElement} {r : DerError} {before : Bool} → (h : Header) (u : ReaderState) → Passes (HeaderNext h) s u → NoTagWord word → RefusesTag word m s r v → new ≡ old → FindsOptional word s r old new before before v
finds_refusal h u passed none (unexpected tag is_tag reported stays) kept = absurd (none tag is_tag)
finds_refusal h u passed none (no_tag never reported stopped) kept = no_tag h u passed none reported kept refl stopped

module _ {word : ℕ} {s t : ReaderState} {old new : DerElement} where
  pub expects_met : {m : ℕ} → MeetsElement word s (Ok m) old new t → m ≡ word → ExpectsElement word s no_error old new t
  expects_met (no_header r e fails kept) same = ok_apart e
  expects_met (other_tag h u passed other e kept stays) same = absurd (other (sym (ok_same e) ∙ same))
  expects_met (cut h u r passed is e fails kept) same = ok_apart e
  expects_met (met h u octets passed is e given element) same = following h u passed is (there octets given refl element)

  pub expects_other : {m : ℕ} {r : DerError} {v : ReaderState} → MeetsElement word s (Ok m) old new t → m ≢ word → RefusesTag word m t r v → ExpectsElement word s r old new v
  expects_other (no_header q e fails kept) apart refuses = ok_apart e
  expects_other {r = r} {v = v} (other_tag h u passed other e kept stays) apart refuses =
      other_tag h u passed other (subst (λ x. RefusesTag word (tag_word (head_of h).tag) x r v) stays (subst (λ n. RefusesTag word n t r v) (ok_same e) refuses)) kept
  expects_other (cut h u q passed is e fails kept) apart refuses = ok_apart e
  expects_other (met h u octets passed is e given element) apart refuses = absurd (apart (ok_same e))

  pub expects_error : {r : DerError} → MeetsElement word s (Err r) old new t → ExpectsElement word s r old new t
  expects_error (no_header q e fails kept) = subst (λ x. ExpectsElement word s x old new t) (sym (error_same e)) (no_header fails kept)
  expects_error (other_tag h u passed other e kept stays) = ok_apart (sym e)
  expects_error (cut h u q passed is e fails kept) = subst (λ x. ExpectsElement word s x old new t) (sym (error_same e)) (following h u passed is (missing fails kept))
  expects_error (met h u octets passed is e given element) = ok_apart (sym e)

  pub finds_met : {m : ℕ} {before : Bool} → MeetsElement word s (Ok m) old new t → m ≡ word → FindsOptional word s no_error old new before true t
  finds_met (no_header q e fails kept) same = ok_apart e
  finds_met (other_tag h u passed other e kept stays) same = absurd (other (sym (ok_same e) ∙ same))
  finds_met (cut h u q passed is e fails kept) same = ok_apart e
  finds_met (met h u octets passed is e given element) same = found h u octets passed is given element refl refl

  pub finds_other : {m : ℕ} {before : Bool} → MeetsElement word s (Ok m) old new t → m ≢ word → (tag : Tag) → IsTagWord word tag → FindsOptional word s no_error old new before false t
  finds_other (no_header q e fails kept) apart tag is_tag = ok_apart e
  finds_other (other_tag h u passed other e kept stays) apart tag is_tag = absent (other_tag h u tag passed is_tag other) refl kept refl stays
  finds_other (cut h u q passed is e fails kept) apart tag is_tag = ok_apart e
  finds_other (met h u octets passed is e given element) apart tag is_tag = absurd (apart (ok_same e))

  pub finds_no_tag : {m : ℕ} {r : DerError} {before : Bool} {v : ReaderState} → MeetsElement word s (Ok m) old new t → m ≢ word → NoTagWord word → RefusesTag word m t r v → FindsOptional word s r old new before before v
  finds_no_tag (no_header q e fails kept) apart none refuses = ok_apart e
  finds_no_tag {m} {r} {v = v} (other_tag h u passed other e kept stays) apart none refuses = finds_refusal h u passed none (subst (λ x. RefusesTag word m x r v) stays refuses) kept
  finds_no_tag (cut h u q passed is e fails kept) apart none refuses = ok_apart e
  finds_no_tag (met h u octets passed is e given element) apart none refuses = absurd (apart (ok_same e))

  pub finds_error : {r : DerError} {before : Bool} → (s.failed ≡ false → s.position ≢ s.end) → MeetsElement word s (Err r) old new t → FindsOptional word s r old new before before t
  finds_error {r} {before} more (no_header q e fails kept) = subst (λ x. FindsOptional word s x old new before before t) (sym (error_same e)) (no_header more fails kept refl)
  finds_error more (other_tag h u passed other e kept stays) = ok_apart (sym e)
  finds_error {r} {before} more (cut h u q passed is e fails kept) = subst (λ x. FindsOptional word s x old new before before t) (sym (error_same e)) (cut h u passed is fails kept refl)
  finds_error more (met h u octets passed is e given element) = ok_apart (sym e)
