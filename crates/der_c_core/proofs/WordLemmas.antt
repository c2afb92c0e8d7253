-- The first octet of an identifier is the word of its tag, if the tag is in the short form.
use Rattle.std.proofs.Common.{◌≡◌, ◌≢◌, ℕ, ◌+◌, ◌*◌, ◌%◌, ◌<◌, Bool, true, false, List, [], ◌∷◌, ◌++◌, sym, ap, ◌∙◌, subst, ⊎_elim, arith}
use Rattle.std.proofs.lemmas.Bool.{cases_lt, lt-ltb}
use Rattle.der_base.specs.Length.{digits}
use Rattle.der_base.specs.Tag.{label, leading_octet, tag_octets, continuation_octets, IsIdentifier}
use Rattle.der_base.specs.HeaderGrammar.{Head, HeadNext}
use Rattle.der_base.specs.declared.encoding_rules.EncodingRules.{EncodingRules}
use Rattle.der_base.specs.declared.tag.Tag.{Tag}
use Rattle.der_base.proofs.TagLemmas.{label_small, label_large, tag_begins, constructed_bit}
use Rattle.der_base.proofs.IdentifierLemmas.{tagged, segmented, identifier_view}
use Rattle.der_base.proofs.HeaderLemmas.{header_view_of, header_view}
use Rattle.der_core.specs.ReaderState.{ReaderState, rest_of}
use Rattle.der_core.specs.Decode.{Passes}
use Rattle.der_c_core.specs.TagWord.{tag_word}
use Rattle.der_c_core.specs.Short.{IsNextOctet, DeterminesTag}

-- an octet whose five low bits are not all set does not announce the long form
short_octet : (b : Bool) (k o : ℕ) → 64 * k + constructed_bit b + 31 ≡ o → o % 32 < 31 → ⊥
short_octet true k o e h = omega arith
short_octet false k o e h = omega arith

-- an octet that is a whole identifier is the word of its tag
pub tag_short : (t : Tag) (o : ℕ) (more : List ℕ) → tag_octets t ≡ o ∷ more → o % 32 < 31 → o ≡ tag_word t
tag_short t o more e h =
    ⊎_elim
    (λ a. let v : leading_octet (label t) (label t).number ∷ [] ≡ o ∷ more = sym (label_small (label t) a) ∙ e in
    let w : leading_octet (label t) (label t).number ≡ o = cc in
    rw (lt-ltb (label t).number 31 a) (omega arith))
    (λ a. let v : leading_octet (label t) 31 ∷ continuation_octets (digits 128 (label t).number) ≡ o ∷ more = sym (label_large (label t) a) ∙ e in
    let w : leading_octet (label t) 31 ≡ o = cc in
    absurd (short_octet (label t).constructed (label t).class o w h))
    (cases_lt (label t).number 31)

pub identifier_short : (rules : EncodingRules) (id : List ℕ) (t : Tag) (b : Bool) (o : ℕ) (more : List ℕ) → IsIdentifier rules id t b → id ≡ o ∷ more → o % 32 < 31 → o ≢ 36 → o ≡ tag_word t
identifier_short rules id t b o more h e small other =
    elim (identifier_view h) [
      | tagged n s c ↦ tag_short t o more (sym s ∙ e) small
      | segmented r s p c ↦ absurd (other (let v : o ∷ more ≡ 36 ∷ [] = sym e ∙ s in cc))
    ]

-- an identifier has a first octet
identifier_some : (rules : EncodingRules) (id : List ℕ) (t : Tag) (b : Bool) → IsIdentifier rules id t b → (o : ℕ) × (more : List ℕ) × (id ≡ o ∷ more)
identifier_some rules id t b h =
    elim (identifier_view h) [
      | tagged n s c ↦ (let p = tag_begins t in (p.0, p.1, s ∙ p.2))
      | segmented r s p c ↦ (36, [], s)
    ]

-- the first octet of a header determines its tag
pub first_octet_determines_tag : (h : Head) (s t : ReaderState) (o : ℕ) → Passes (HeadNext h) s t → IsNextOctet s o → DeterminesTag o h.tag
first_octet_determines_tag h s t o passed first small other =
    elim (header_view passed.next) [
      | header_view_of id more d l ok e c ↦
          (let p = identifier_some s.rules id h.tag h.constructed d in
          let whole : rest_of s ≡ p.0 ∷ (p.1 ++ more) = e ∙ ap (λ x. x ++ more) p.2 in
          let same : o ≡ p.0 = first passed.working p.0 (p.1 ++ more) whole in
          let below : p.0 % 32 < 31 = subst (λ x. x % 32 < 31) same small in
          let apart : p.0 ≢ 36 = λ q. other (same ∙ q) in
          same ∙ identifier_short s.rules id h.tag h.constructed p.0 p.1 d p.2 below apart)
    ]
