-- Lemmas on reading elements with unknown tags.
use Rattle.std.proofs.Common.{◌≡◌, ℕ, Bool, true, false, List, [], ◌∷◌, sym, subst, ◌∙◌}
use Rattle.der.specs.Prelude.{EncodingRules, Error, ReaderState, kind_of, rest_of}
use Rattle.der.specs.Decode.{is_out_of_memory_kind, Passes}
use Rattle.der.proofs.HeaderLemmas.{one_tag}
use Rattle.der_asn1.specs.AnyElement.{AnyElementNext}
use Rattle.der_asn1.specs.AnyRef.{TakesAny}
use Rattle.der_asn1.specs.Additions.{AreUnknown, IsUnknown}
use Rattle.der_asn1.specs.SequenceOf.{AllValid, IsListOf}
use Rattle.der_asn1.specs.TagSets.{is_among}
use Rattle.der_asn1.specs.UnknownElement.{any_tag_next}
use Rattle.der_asn1.specs.declared.elements.any.AnyRef.{AnyRef}

-- whether an error reports a failed allocation
abbrev pub lacks : Error → Bool
lacks e = is_out_of_memory_kind (kind_of e)

-- octets begin with elements of one tag
pub one_element_tag : {v w : AnyRef} {rules : EncodingRules} {octets : List ℕ} {m n : ℕ} → AnyElementNext TakesAny v rules octets m → AnyElementNext TakesAny w rules octets n → v.tag ≡ w.tag
one_element_tag one two =
    let a = any_tag_next one in
    let b = any_tag_next two in
    sym a.among ∙ (one_tag a.next b.next).0 ∙ b.among

-- an element that was read where one with an unknown tag is next has an unknown tag
pub unknown_was_read : (known : List (ℕ × ℕ)) {v w : AnyRef} {s t : ReaderState} {m : ℕ} (b : Bool) → AnyElementNext TakesAny v s.rules (rest_of s) m → Passes (AnyElementNext TakesAny w) s t → is_among known v.tag ≡ false → b ≡ is_among known w.tag → b ≡ true → ⊥
unknown_was_read known b next passed unknown e is =
    let same = subst (λ x. is_among known x ≡ false) (one_element_tag next passed.next) unknown in
    (let no : false ≡ true = sym same ∙ sym e ∙ is in cc)

-- values with unknown tags are values
pub any_list : {A : Type 0} {valid : A → Type 0} {encoding : A → List ℕ} (known : List (ℕ × ℕ)) {octets : List ℕ} → AreUnknown known valid encoding octets → IsListOf valid encoding octets
any_list {A} {valid} {encoding} known l = record { items = l.items; are_valid = go l.items l.are_valid; joined = l.joined }
  where
    go : (items : List A) → AllValid (IsUnknown known valid encoding) items → AllValid valid items
    go [] are = tt
    go (v ∷ vs) are = (are.0.0, go vs are.1)
