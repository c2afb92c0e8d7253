-- Elements with a tag that a type with an extension mark does not know (`unknown_element`), their
-- laws, and the possible results of reading one (`UnknownRead`).
use Rattle.std.proofs.Common.{◌≡◌, ℕ, true, false, List, [], ◌∷◌, Result, Ok, Err, None, inl, subst, sym, ◌∙◌}
use Rattle.der.specs.Prelude.{element_levels, element_octets, EncodingRules, Error, ReaderState, error_at, reader_position}
use Rattle.der.specs.ErrorKinds.{TagUnexpected}
use Rattle.der.specs.ReaderState.{stopped_state}
use Rattle.der_asn1.specs.AnyElement.{AnyElementNext}
use Rattle.der_asn1.specs.AnyLaws.{any_element_decided_by_tag}
use Rattle.der_asn1.specs.AnyRef.{IsAny, TakesAny, any_contents}
use Rattle.der_asn1.specs.Begins.{element_begins}
use Rattle.der_asn1.specs.Follow.{TagIn, this_tag}
use Rattle.der_asn1.specs.FollowLemmas.{element_starts, starts_wider}
use Rattle.der_asn1.specs.Meaning.{AlternativeSpec}
use Rattle.der_asn1.specs.SetLaws.{DecidedByTagLaws, seen_decided_by_tag}
use Rattle.der_asn1.specs.TagSets.{all_but, IsOf, is_among}
use Rattle.der_asn1.specs.declared.elements.any.AnyRef.{AnyRef}

-- an element begins with its tag
pub any_tag_next : {v : AnyRef} {rules : EncodingRules} {octets : List ℕ} {m : ℕ}
    → AnyElementNext TakesAny v rules octets m → TagIn (this_tag v.tag) rules octets
any_tag_next {v} e =
    let begun = element_begins e.element in
    record {
      tag = begun.tag;
      count = begun.count;
      next = begun.next;
      among = begun.among ∙ sym e.element.tagged ∙ e.element.taken.tagged;
    }

-- values with an element, none of which has a known tag
module _ {B : Type 0} (known : List (ℕ × ℕ)) (f : B → AnyRef)
    (unknown : (b : B) → is_among known (f b).tag ≡ false) where
  pub unknown_begins : (b : B) (rules : EncodingRules) (octets : List ℕ) (m : ℕ)
      → AnyElementNext TakesAny (f b) rules octets m → TagIn (IsOf (all_but known)) rules octets
  unknown_begins b rules octets m e =
      let begun = any_tag_next e in
      record {
        tag = begun.tag;
        count = begun.count;
        next = begun.next;
        among = subst (λ t. is_among known t ≡ false) (sym begun.among) (unknown b);
      }

  pub unknown_decided_by_tag : DecidedByTagLaws (IsOf (all_but known)) (all_but known ∷ [])
      (λ b. AnyElementNext TakesAny (f b)) (λ b. IsAny (f b))
      (λ b. element_octets (f b).tag (any_contents (f b)))
  unknown_decided_by_tag =
      let one = seen_decided_by_tag f any_element_decided_by_tag in
      record {
        reads = one.reads;
        starts = record {
          starts = λ b is. starts_wider
              (λ t e. subst (λ x. is_among known x ≡ false) (sym e) (unknown b))
              (element_starts (f b).tag (any_contents (f b)) is);
        };
        among = λ t h. inl h;
        element = one.element;
        holds = one.holds;
      }

  -- an element with an unknown tag, as an alternative
  abbrev pub unknown_element : AlternativeSpec B
  unknown_element =
      record {
        is_next = λ b. AnyElementNext TakesAny (f b);
        valid = λ b. IsAny (f b);
        encoding = λ b. element_octets (f b).tag (any_contents (f b));
        levels = element_levels (λ _. 0);
        tags = IsOf (all_but known);
        first = all_but known ∷ [];
        begins = unknown_begins;
        is_compatible = true;
        laws = λ e. unknown_decided_by_tag;
      }

-- the result of reading: that of reading an element of any tag, or an error after an element with a
-- known tag
pub data UnknownRead {B E : Type 0} (known : List (ℕ × ℕ)) (f : B → AnyRef)
    (converts : Error → E → Type 0)
    (answers : ReaderState → Result AnyRef E → ReaderState → Type 0) (s : ReaderState)
    (result : Result B E) (t : ReaderState) : Type 0 where
  unknown_refused : (e : E) → answers s (Err e) t → result ≡ Err e
      → UnknownRead known f converts answers s result t
  unknown_is_known : (v : AnyRef) (u : ReaderState) (e : E) → answers s (Ok v) u
      → is_among known v.tag ≡ true
      → converts (error_at (TagUnexpected None v.tag) (reader_position u)) e → result ≡ Err e
      → t ≡ stopped_state u u.position → UnknownRead known f converts answers s result t
  unknown_read : (b : B) → answers s (Ok (f b)) t → result ≡ Ok b
      → UnknownRead known f converts answers s result t
