-- The kind that a code is the form of.
use Rattle.std.proofs.Common.{◌≡◌, ◌≢◌, ◌%◌, false, Option, Some, None, refl, sym, ap, ◌∙◌, subst, arith, ⊎_elim}
use Rattle.std.proofs.lemmas.Bool.{cases_eq}
use Rattle.std.specs.Option.{option_map}
use Rattle.der_base.specs.Error.{kind_of, position_of}
use Rattle.der_base.specs.Length.{number, definite_length}
use Rattle.der_base.specs.declared.length.Length.{Length}
use Rattle.der_base.specs.declared.tag.Tag.{Tag}
use Rattle.der_base.specs.declared.error.Error.{Error}
use Rattle.der_base.specs.declared.error.ErrorKind.{ErrorKind}
use Rattle.der_base.specs.declared.error.ErrorKind.TheVariants as kind
use Rattle.der_c_core.specs.TagWord.{tag_octet, long_number, said_tag}
use Rattle.der_c_core.specs.ErrorCode.{kind_code, placed_code, error_code}
use Rattle.der_c_core.specs.CodeKind.{kind_known, error_with}
use Rattle.der_c_core.specs.ErrorText.{NamesOctet}
use Rattle.der_c_core.specs.declared.error.DerError.{DerError}
use Rattle.der_c_core.proofs.TagWordLemmas.{tag_said}

-- a code gives a kind with the same code
abbrev IsKnown : DerError → DerError → Type 0
IsKnown c d = (j : ErrorKind) × (kind_known c ≡ Some j) × (kind_code j ≡ d)

of_tag : (K : Tag → ErrorKind) (t : Tag) → option_map K (said_tag (tag_octet t) (long_number t)) ≡ Some (K t)
of_tag K t = ap (option_map K) (tag_said t)

known_kind : (k : ErrorKind) → NamesOctet k → (kind_code k).kind ≢ 20 → IsKnown (kind_code k) (kind_code k)
known_kind kind.DateTime h n = (kind.DateTime, refl, refl)
known_kind kind.EncodingRules h n = (kind.EncodingRules, refl, refl)
known_kind kind.Failed h n = (kind.Failed, refl, refl)
known_kind (kind.Incomplete a b) h n = (kind.Incomplete (definite_length (number a)) (definite_length (number b)), refl, refl)
known_kind kind.IndefiniteLength h n = (kind.IndefiniteLength, refl, refl)
known_kind (kind.Length t) h n = (kind.Length t, of_tag kind.Length t, refl)
known_kind kind.NestingDepth h n = (kind.NestingDepth, refl, refl)
known_kind (kind.Noncanonical t) h n = (kind.Noncanonical t, of_tag kind.Noncanonical t, refl)
known_kind kind.OidMalformed h n = (kind.OidMalformed, refl, refl)
known_kind kind.SetDuplicate h n = (kind.SetDuplicate, refl, refl)
known_kind kind.SetOrdering h n = (kind.SetOrdering, refl, refl)
known_kind kind.Overflow h n = (kind.Overflow, refl, refl)
known_kind kind.Overlength h n = (kind.Overlength, refl, refl)
known_kind kind.Reader h n = (kind.Reader, refl, refl)
known_kind kind.TagModeUnknown h n = (kind.TagModeUnknown, refl, refl)
known_kind kind.TagNumberInvalid h n = (kind.TagNumberInvalid, refl, refl)
known_kind (kind.TagUnexpected None t) h n = (kind.TagUnexpected None t, of_tag (kind.TagUnexpected None) t, refl)
known_kind (kind.TagUnexpected (Some x) t) h n =
    (kind.TagUnexpected (Some x) t, ap (λ o. option_map (kind.TagUnexpected o) (said_tag (tag_octet t) (long_number t))) (tag_said x) ∙ of_tag (kind.TagUnexpected (Some x)) t, refl)
known_kind (kind.TagUnknown o) h n =
    let small : o % 256 ≡ o = omega (arith, h) in
    (kind.TagUnknown (o % 256), refl, ap (λ x. kind_code (kind.TagUnknown x)) small)
known_kind (kind.TrailingData a b) h n = (kind.TrailingData (definite_length (number a)) (definite_length (number b)), refl, refl)
known_kind (kind.Utf8 e) h n = absurd (n refl)
known_kind (kind.Value t) h n = (kind.Value t, of_tag kind.Value t, refl)
known_kind kind.OutOfMemory h n = (kind.OutOfMemory, refl, refl)

unplaced : (k : ErrorKind) → (kind_code k).has_position ≡ false
unplaced kind.DateTime = refl
unplaced kind.EncodingRules = refl
unplaced kind.Failed = refl
unplaced (kind.Incomplete a b) = refl
unplaced kind.IndefiniteLength = refl
unplaced (kind.Length t) = refl
unplaced kind.NestingDepth = refl
unplaced (kind.Noncanonical t) = refl
unplaced kind.OidMalformed = refl
unplaced kind.SetDuplicate = refl
unplaced kind.SetOrdering = refl
unplaced kind.Overflow = refl
unplaced kind.Overlength = refl
unplaced kind.Reader = refl
unplaced kind.TagModeUnknown = refl
unplaced kind.TagNumberInvalid = refl
unplaced (kind.TagUnexpected None t) = refl
unplaced (kind.TagUnexpected (Some x) t) = refl
unplaced (kind.TagUnknown o) = refl
unplaced (kind.TrailingData a b) = refl
unplaced (kind.Utf8 e) = refl
unplaced (kind.Value t) = refl
unplaced kind.OutOfMemory = refl

-- a code with a position gives an error with the same code
placed_known : (p : Option Length) (k : ErrorKind) → IsKnown (kind_code k) (kind_code k) → (j : ErrorKind) × (kind_known (placed_code p (kind_code k)) ≡ Some j) × (error_code (error_with (placed_code p (kind_code k)) j) ≡ placed_code p (kind_code k))
placed_known None k (j, known, same) = (j, known, rw (unplaced k) same)
placed_known (Some p) k (j, known, same) = (j, known, ap (placed_code (Some p)) same)

pub known_again : (e : Error) → NamesOctet (kind_of e) → (error_code e).kind ≢ 20 → (j : ErrorKind) × (kind_known (error_code e) ≡ Some j) × (error_code (error_with (error_code e) j) ≡ error_code e)
known_again e h n =
    let other : (kind_code (kind_of e)).kind ≢ 20 = λ q. n (placed_number (position_of e) (kind_code (kind_of e)) ∙ q) in
    placed_known (position_of e) (kind_of e) (known_kind (kind_of e) h other)
  where
    placed_number : (p : Option Length) (c : DerError) → (placed_code p c).kind ≡ c.kind
    placed_number None c = refl
    placed_number (Some p) c = refl

-- where no error was found, or one with another code, there is none
module _ (e : Error) (h : NamesOctet (kind_of e)) where
  none_for : option_map (λ k. error_with (error_code e) k) (kind_known (error_code e)) ≡ None → (error_code e).kind ≡ 20
  none_for none =
      ⊎_elim (λ is. is)
      (λ other. (
      let k = known_again e h other in
      let found : option_map (λ k. error_with (error_code e) k) (kind_known (error_code e)) ≡ Some (error_with (error_code e) k.0) = ap (option_map (error_with (error_code e))) k.1 in
      absurd (let no : Some (error_with (error_code e) k.0) ≡ None = sym found ∙ none in cc)))
      (cases_eq (error_code e).kind 20)

  other_for : (x : Error) → option_map (λ k. error_with (error_code e) k) (kind_known (error_code e)) ≡ Some x → (error_code x ≡ error_code e → ⊥) → (error_code e).kind ≡ 20
  other_for x some apart =
      ⊎_elim (λ is. is)
      (λ other. (
      let k = known_again e h other in
      let found : option_map (λ k. error_with (error_code e) k) (kind_known (error_code e)) ≡ Some (error_with (error_code e) k.0) = ap (option_map (error_with (error_code e))) k.1 in
      let both : Some (error_with (error_code e) k.0) ≡ Some x = sym found ∙ some in
      let is : error_with (error_code e) k.0 ≡ x = cc in
      absurd (apart (ap error_code (sym is) ∙ k.2))))
      (cases_eq (error_code e).kind 20)

pub known_none : (c : DerError) → option_map (λ k. error_with c k) (kind_known c) ≡ None → (e : Error) → NamesOctet (kind_of e) → error_code e ≡ c → c.kind ≡ 20
known_none c none e h same =
    subst (λ (x : DerError). x.kind ≡ 20) same (none_for e h (subst (λ (x : DerError). option_map (λ k. error_with x k) (kind_known x) ≡ None) (sym same) none))

pub known_other : (c : DerError) (x : Error) → option_map (λ k. error_with c k) (kind_known c) ≡ Some x → (error_code x ≡ c → ⊥) → (e : Error) → NamesOctet (kind_of e) → error_code e ≡ c → c.kind ≡ 20
known_other c x some apart e h same =
    subst (λ (y : DerError). y.kind ≡ 20) same
    (other_for e h x (subst (λ (y : DerError). option_map (λ k. error_with y k) (kind_known y) ≡ Some x) (sym same) some) (λ q. apart (q ∙ same)))
