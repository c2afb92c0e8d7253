-- The laws of an element of any tag.
use Rattle.std.proofs.Common.{ℕ, ◌^◌, ◌<◌, List, [], ◌∷◌, inl, arith, refl}
use Rattle.der.specs.Prelude.{element_levels, element_octets, EncodingRules, Head, IsLawful, Tag, TakesWhole}
use Rattle.der.specs.Tag.{label}
use Rattle.der_asn1.specs.AnyElement.{AnyElementNext}
use Rattle.der_asn1.specs.AnyElementLemmas.{choices_are_encodings, choices_start}
use Rattle.der_asn1.specs.AnyRef.{IsAny, TakesAny, any_contents, any_lawful}
use Rattle.der_asn1.specs.FieldLaws.{contents_hold, contents_laws}
use Rattle.der_asn1.specs.Follow.{any_tag}
use Rattle.der_asn1.specs.TagSets.{all_but}
use Rattle.der_asn1.specs.SetLaws.{DecidedByTagLaws, decided_by_tag_set, laws_of}
use Rattle.der_asn1.specs.declared.elements.any.AnyRef.{AnyRef}

pub any_element_decided_by_tag : DecidedByTagLaws any_tag (all_but [] ∷ []) (AnyElementNext TakesAny)
    IsAny
    (λ v. element_octets v.tag (any_contents v))
any_element_decided_by_tag =
    record {
      reads = choices_are_encodings any_lawful;
      starts = choices_start any_lawful any_tag (λ v is. tt);
      among = λ t h. inl refl;
      element = λ v is. record { tag = v.tag; contents = any_contents v; whole = refl };
      holds = λ v rules octets m e. e.element.taken.numbered;
    }

-- an element of any tag inside another element is lawful
pub explicit_any_lawful : {B : Type 0} (outer : Tag) (f : B → AnyRef)
    → (label outer).number < 2 ^ 32
    → IsLawful outer (λ b. TakesWhole (AnyElementNext TakesAny) (f b)) (λ b. IsAny (f b))
    (λ b. element_octets (f b).tag (any_contents (f b))) (element_levels (λ _. 0))
explicit_any_lawful outer f numbered =
    contents_laws outer (element_levels (λ _. 0)) f
    (laws_of (decided_by_tag_set any_element_decided_by_tag)) (omega arith) numbered

pub explicit_any_holds : {B : Type 0} (f : B → AnyRef) (b : B) (rules : EncodingRules) (h : Head)
    (octets : List ℕ) → TakesWhole (AnyElementNext TakesAny) (f b) rules h octets → IsAny (f b)
explicit_any_holds f b = contents_hold (laws_of (decided_by_tag_set any_element_decided_by_tag)) (f b)
