-- Lemmas on elements of types whose values have different tags.
use Rattle.std.proofs.Common.{◌≡◌, ℕ, ◌+◌, ◌^◌, ◌<◌, Result, Ok, Err, IfOk, List, ◌++◌, length}
use Rattle.std.proofs.Common.{refl, sym, ap, subst, ◌∙◌, length-append, arith}
use Rattle.der.specs.Prelude.{Head, header_octets, Tag, EncodingRules, Der, ElementNext}
use Rattle.der.specs.Prelude.{element_octets, ReaderState}
use Rattle.der.specs.Tag.{label}
use Rattle.der.specs.Decode.{Passes}
use Rattle.der.specs.Lawful.{EncodingNext, ReadsEncodings}
use Rattle.der_core.proofs.DerLemmas.{header_read}
use Rattle.der.specs.LawfulLemmas.{der_element, element_der}
use Rattle.der_asn1.specs.AnyElement.{AnyElementNext, IsLawfulChoice}
use Rattle.der_asn1.specs.Follow.{Starts}
use Rattle.der_asn1.specs.FollowLemmas.{element_starts, starts_wider}

-- an element read with one tag is an element read with some tag
pub element_passes : {A E : Type 0} (takes : A → EncodingRules → Head → List ℕ → Type 0)
    (s t : ReaderState) (tag : Tag) (result : Result A E) (P : Type 0)
    → IfOk result (λ v. P → Passes (ElementNext tag takes v) s t)
    → IfOk result (λ v. P → Passes (AnyElementNext takes v) s t)
element_passes takes s t tag (Err e) P h = tt
element_passes takes s t tag (Ok v) P h =
    λ w. let p = h w in
    record {
      octets = p.octets;
      working = p.working;
      next = record { tag = tag; element = p.next };
      there = p.there;
      leaves = p.leaves;
    }

-- octets are such an element if and only if they are its encoding
module _ {A : Type 0} {tag_of : A → Tag} {takes : A → EncodingRules → Head → List ℕ → Type 0}
    {valid : A → Type 0} {contents : A → List ℕ}
    (laws : IsLawfulChoice tag_of takes valid contents) where
  pub choices_are_encodings : ReadsEncodings (AnyElementNext takes) valid
      (λ v. element_octets (tag_of v) (contents v))
  choices_are_encodings = record { only = from; every = to }
    where
      from : (octets : List ℕ) (v : A) (m : ℕ) → AnyElementNext takes v Der octets m
          → EncodingNext valid (λ x. element_octets (tag_of x) (contents x)) v octets m
      from octets v m e =
          let d = der_element e.element in
          let numbered : (label e.tag).number < 2 ^ 32 =
          subst (λ x. (label x).number < 2 ^ 32) e.element.tagged
          (header_read e.element.next).numbered in
          let lawful = (laws.exact d.contents e.tag v d.small numbered).0 d.taken in
          let same : element_octets e.tag d.contents ≡ element_octets (tag_of v) (contents v) =
          ap (λ t. element_octets t d.contents) lawful.1
          ∙ ap (element_octets (tag_of v)) (sym lawful.2) in
          record {
            is_valid = lawful.0;
            following = d.following;
            split = d.split ∙ ap (λ x. x ++ d.following) same;
            whole = d.whole ∙ ap length same;
          }

      to : (octets : List ℕ) (v : A) (m : ℕ) → length octets < 2 ^ 32
          → EncodingNext valid (λ x. element_octets (tag_of x) (contents x)) v octets m
          → AnyElementNext takes v Der octets m
      to octets v m short e =
          let size : length octets ≡ length
          (element_octets (tag_of v) (contents v)) + length e.following =
          ap length e.split ∙ length-append (element_octets (tag_of v) (contents v)) e.following in
          let few : length (contents v) < 2 ^ 32 =
          omega (
            arith,
            size,
            short,
            length-append (header_octets (tag_of v) (length (contents v))) (contents v),
          ) in
          let numbered = laws.numbered v e.is_valid in
          let front =
          element_der (tag_of v) takes (contents v) e.following v numbered few
          ((laws.exact (contents v) (tag_of v) v few numbered).1 (e.is_valid, refl, refl)) in
          record {
            tag = tag_of v;
            element =
                subst (λ x. ElementNext (tag_of v) takes v Der octets x) (sym e.whole)
                (subst (λ x. ElementNext (tag_of v) takes v Der x
                (length (element_octets (tag_of v) (contents v)))) (sym e.split) front);
          }

  pub choices_start : (tags : Tag → Type 0) → ((v : A) → valid v → tags (tag_of v))
      → Starts valid (λ v. element_octets (tag_of v) (contents v)) tags
  choices_start tags among =
      record {
        starts = λ v is. starts_wider (λ t e. subst tags (sym e) (among v is))
            (element_starts (tag_of v) (contents v) (laws.numbered v is));
      }
