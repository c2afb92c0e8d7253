-- What a successful read of an element implies.
use Rattle.std.proofs.Common.{◌≡◌, ◌≢◌, ℕ, ◌+◌, ◌≤◌, Option, Some, None, Ok, List, length, take, refl, sym, ap, ◌∙◌, subst, arith, length-take}
use Rattle.der_base.specs.Error.{kind_of, position_of}
use Rattle.der_base.specs.Length.{number}
use Rattle.der_base.specs.Arithmetic.{sans_eoc}
use Rattle.der_base.specs.declared.length.Length.{Length}
use Rattle.der_base.specs.declared.error.Error.{Error}
use Rattle.der_base.specs.declared.error.ErrorKind.{ErrorKind}
use Rattle.der_base.specs.declared.error.ErrorKind.TheVariants as kind
use Rattle.std.proofs.Common.{rules}
use Rattle.std.proofs.lemmas.Bool.Decides.{nat_tests}
use Rattle.der_base.specs.HeaderGrammar.{Head}
use Rattle.der_core.specs.ReaderState.{ReaderState, rest_of, advanced_state, stopped_state}
use Rattle.der_core.specs.Outcome.{Gives}
use Rattle.der_core.specs.Reader.{read_slice_outcome}
use Rattle.der_c_core.specs.Around.{Moved}
use Rattle.der_c_core.specs.ErrorCode.{no_error, error_code, kind_code, placed_code}
use Rattle.der_c_core.specs.Failure.{Fails}
use Rattle.der_c_core.specs.ElementCalls.{ReadsElement, no_header, following, ReadsContents, there, missing, SkipsElement, cut, skipped}
use Rattle.der_c_core.specs.declared.error.DerError.{DerError}
use Rattle.der_c_core.specs.declared.element.DerElement.{DerElement}

-- no kind has the number 0, which means no error
kind_some : (k : ErrorKind) → (kind_code k).kind ≢ 0
kind_some kind.DateTime e = omega (arith, e)
kind_some kind.EncodingRules e = omega (arith, e)
kind_some kind.Failed e = omega (arith, e)
kind_some (kind.Incomplete expected actual) e = omega (arith, e)
kind_some kind.IndefiniteLength e = omega (arith, e)
kind_some (kind.Length t) e = omega (arith, e)
kind_some kind.NestingDepth e = omega (arith, e)
kind_some (kind.Noncanonical t) e = omega (arith, e)
kind_some kind.OidMalformed e = omega (arith, e)
kind_some kind.SetDuplicate e = omega (arith, e)
kind_some kind.SetOrdering e = omega (arith, e)
kind_some kind.Overflow e = omega (arith, e)
kind_some kind.Overlength e = omega (arith, e)
kind_some kind.Reader e = omega (arith, e)
kind_some kind.TagModeUnknown e = omega (arith, e)
kind_some kind.TagNumberInvalid e = omega (arith, e)
kind_some (kind.TagUnexpected None actual) e = omega (arith, e)
kind_some (kind.TagUnexpected (Some expected) actual) e = omega (arith, e)
kind_some (kind.TagUnknown octet) e = omega (arith, e)
kind_some (kind.TrailingData decoded remaining) e = omega (arith, e)
kind_some (kind.Utf8 error) e = omega (arith, e)
kind_some (kind.Value t) e = omega (arith, e)
kind_some kind.OutOfMemory e = omega (arith, e)

placed_kind : (p : Option Length) (c : DerError) → (placed_code p c).kind ≡ c.kind
placed_kind None c = refl
placed_kind (Some p) c = refl

pub code_some : (e : Error) → (error_code e).kind ≢ 0
code_some e h = kind_some (kind_of e) (sym (placed_kind (position_of e) (kind_code (kind_of e))) ∙ h)

pub fails_some : {Refuses : Error → ReaderState → Type 0} {r : DerError} {t : ReaderState} {A : Type 0} → Fails Refuses r t → r.kind ≡ 0 → A
fails_some f none = absurd (code_some f.error (sym (ap (λ (c : DerError). c.kind) f.reported) ∙ none))

-- the error of a call that was left at `u`
pub fails_by : {r : DerError} {t : ReaderState} (Refuses : Error → ReaderState → Type 0) (e : Error) (u : ReaderState) → Refuses e u → r ≡ error_code e → t ≡ stopped_state u u.position → Fails Refuses r t
fails_by Refuses e u refused reported stopped = record { error = e; left = u; refused = refused; reported = reported; stopped = stopped }

pub contents_kind_zero : {h : Head} {from : ℕ} {s t : ReaderState} {r : DerError} {old e : DerElement} → ReadsContents h from s r old e t → r.kind ≡ 0 → r ≡ no_error
contents_kind_zero (there octets given reported element) none = reported
contents_kind_zero (missing fails same) none = fails_some fails none

-- a result of kind 0 is no error
pub element_kind_zero : {s t : ReaderState} {r : DerError} {old e : DerElement} → ReadsElement s r old e t → r.kind ≡ 0 → r ≡ no_error
element_kind_zero (no_header fails same) none = fails_some fails none
element_kind_zero (following h u passed contents) none = contents_kind_zero contents none

-- a successful read leaves the reader after the contents, and otherwise unchanged
pub record IsAfterElement (s : ReaderState) (e : DerElement) (t : ReaderState) : Type 0 where
  pub moved : Moved s t
  pub end : t.end ≡ s.end
  pub lies : e.contents_start + length e.contents.now ≤ t.position

slice_given : (n : ℕ) (s t : ReaderState) (octets : List ℕ) → Gives (read_slice_outcome n) s (Ok octets) t → (t ≡ advanced_state s n) × (octets ≡ take n (rest_of s))
slice_given n s t octets g =
    let a = g.answered in
    let l = g.leaves in
    (grind (rules, nat_tests), grind (rules, nat_tests))

contents_after : (h : Head) (from : ℕ) (s u t : ReaderState) (old e : DerElement) → Moved s u → u.end ≡ s.end → ReadsContents h from u no_error old e t → IsAfterElement s e t
contents_after h from s u t old e moved end (there octets given reported element) =
    let slice = slice_given (number h.length) u t octets given in
    let n = number h.length in
    let size : length e.contents.now ≤ n =
    omega (arith, ap length element.contents, length-take (number (sans_eoc h.length)) octets, ap length slice.1, length-take n (rest_of u)) in
    let at : t.position ≡ u.position + n = ap (λ (x : ReaderState). x.position) slice.0 in
    record {
      moved = slice.0 ∙ (let m = moved in let here = slice.0 in cc);
      end = ap (λ (x : ReaderState). x.end) slice.0 ∙ end;
      lies = omega (arith, size, at, element.contents_start);
    }
contents_after h from s u t old e moved end (missing fails same) = fails_some fails refl

pub element_leaves_after : {s t : ReaderState} {old e : DerElement} → ReadsElement s no_error old e t → IsAfterElement s e t
element_leaves_after (no_header fails same) = fails_some fails refl
element_leaves_after {s} {t} {old} {e} (following h u passed contents) =
    contents_after _ _ s u t old e (let l = passed.leaves in cc) (ap (λ (x : ReaderState). x.end) passed.leaves) contents

-- what a read does, without the element
pub element_skips : {s t : ReaderState} {r : DerError} {old e : DerElement} → ReadsElement s r old e t → SkipsElement s r t
element_skips (no_header fails same) = no_header fails
element_skips (following h u passed (there octets given reported element)) = skipped h u octets passed given reported
element_skips (following h u passed (missing fails same)) = cut h u passed fails

-- a successful read leaves the reader with another position, and otherwise unchanged
pub read_moves : {s t : ReaderState} {r : DerError} {old e : DerElement} → ReadsElement s r old e t → r.kind ≡ 0 → record s { position = t.position } ≡ t
read_moves {s} {t} {r} {old} {e} reads none =
    let after : IsAfterElement s e t = element_leaves_after (subst (λ x. ReadsElement s x old e t) (element_kind_zero reads none) reads) in
    sym (after.moved ∙ ap (λ k. record s { position = t.position; end = k }) after.end)

-- a read with a kind of error returns no element
kept_after_error : {s t : ReaderState} {r : DerError} {old e : DerElement} → ReadsElement s r old e t → r.kind ≢ 0 → e ≡ old
kept_after_error (no_header fails same) some = same
kept_after_error (following h u passed (there octets given reported element)) some = absurd (some (ap (λ (c : DerError). c.kind) reported))
kept_after_error (following h u passed (missing fails same)) some = same

pub refused_read : {s t : ReaderState} {r : DerError} {old e : DerElement} → ReadsElement s r old e t → r.kind ≢ 0 → ReadsElement s r old old t
refused_read {s} {t} {r} {old} {e} reads some = subst (λ x. ReadsElement s r old x t) (kept_after_error reads some) reads

pub passed_read : {s t : ReaderState} {r : DerError} {old e : DerElement} → ReadsElement s r old e t → r.kind ≡ 0 → ReadsElement s no_error old e t
passed_read {s} {t} {r} {old} {e} reads none = subst (λ x. ReadsElement s x old e t) (element_kind_zero reads none) reads
