-- An OCTET STRING with an IMPLICIT context-specific tag (X.690 8.14.3): the tag is primitive around
-- the octets (8.7.2), and constructed around segments (8.7.3), which only BER has.
use Rattle.std.specs.Prelude.{◌≡◌, ℕ, ◌^◌, ◌<◌, Bool, true, false, List, [], ◌∷◌, length, Some, Result}
use Rattle.std.proofs.Common.{refl, sym, ap, ◌∙◌, inl, inr}
use Rattle.der.specs.Element.{head_sans_eoc}
use Rattle.der.specs.HeaderGrammar.{HeadNext}
use Rattle.der.specs.Lawful.{EncodingNext, ReadsEncodings}
use Rattle.der.specs.LawfulLemmas.{elements_are_encodings}
use Rattle.der.specs.Octets.{IsCounted}
use Rattle.der.specs.Parts.{TakesParts, as_contents, as_segments}
use Rattle.der.specs.Prelude.{Ber, Der, ElementNext, EncodingRules, Error, Head, IsLawful, OctetString, ReaderState, Tag, element_levels, element_octets, map_ok}
use Rattle.der.specs.Tag.{IsIdentifier, label, of_tag}
use Rattle.der_base.proofs.HeaderLemmas.{HeaderView, header_view_of, header_view}
use Rattle.der_asn1.specs.Begins.{element_begins}
use Rattle.der_asn1.specs.ContextSpecific.{context_tag, TakesImplicit, implicit_lawful}
use Rattle.der_asn1.specs.Follow.{TagIn, either_tags, this_tag}
use Rattle.der_asn1.specs.FollowLemmas.{lawful_starts, starts_wider}
use Rattle.der_asn1.specs.Meaning.{AlternativeSpec, is_small, small}
use Rattle.der_asn1.specs.SetLaws.{DecidedByTagLaws}
use Rattle.der_asn1.specs.TagSets.{IsIn, one_tag}
use Rattle.der_asn1.specs.declared.fields.either.Either.{Either}
use Rattle.der_asn1.specs.declared.fields.either.Either.TheVariants.{First, Second}
use Rattle.der_asn1.specs.declared.fields.implicit.Implicit.{Implicit}
use Rattle.der_segments.specs.Segmented.{TakesSegmented, segmented_lawful, segmented_levels, segmented_octets}
use Rattle.der_segments.specs.declared.constructed_segmented.ConstructedSegmented.{ConstructedSegmented}
use Rattle.der_segments.specs.declared.segmented.Segmented.{Segmented}

-- octets begin with the string: after the primitive tag in one piece, or after the constructed tag
-- in segments
pub data ImplicitSegmentedNext (n : ℕ) (v : Segmented) (rules : EncodingRules) (octets : List ℕ)
    (m : ℕ) : Type 0 where
  in_one_piece : ElementNext (context_tag false n) (TakesImplicit OctetString TakesSegmented
      (λ x. x)) v rules octets m
      → ImplicitSegmentedNext n v rules octets m
  in_segments : ElementNext (context_tag true n) TakesSegmented v rules octets m
      → ImplicitSegmentedNext n v rules octets m

-- the string of either form
abbrev pub string_of_form : {n : ℕ} → Either (Implicit Segmented n) (ConstructedSegmented n)
    → Segmented
string_of_form (First v) = v.0
string_of_form (Second v) = v.0

-- a value is read as another type reads it
pub record ReadsAs {A B C E : Type 0} (answers : ReaderState → Result A E → ReaderState → Type 0)
    (one : A → C) (other : B → C) (s : ReaderState) (result : Result B E) (t : ReaderState)
    : Type 0 where
  pub answer : Result A E
  pub answered : answers s answer t
  pub same : map_ok one answer ≡ map_ok other result

-- the tags of the string
abbrev pub string_tags : ℕ → Tag → Type 0
string_tags n = either_tags (this_tag (context_tag false n)) (this_tag (context_tag true n))

wider : {tags more : Tag → Type 0} {rules : EncodingRules} {octets : List ℕ}
    → ((t : Tag) → tags t → more t) → TagIn tags rules octets → TagIn more rules octets
wider f b = record { tag = b.tag; count = b.count; next = b.next; among = f b.tag b.among }

pub string_begins : (n : ℕ) (v : Segmented) (rules : EncodingRules) (octets : List ℕ) (m : ℕ)
    → ImplicitSegmentedNext n v rules octets m → TagIn (string_tags n) rules octets
string_begins n v rules octets m (in_one_piece e) = wider (λ t h. inl h) (element_begins e)
string_begins n v rules octets m (in_segments e) = wider (λ t h. inr h) (element_begins e)

-- the header of a constructed context-specific tag is constructed
constructed_bit : {h : Head} {n m : ℕ} {octets : List ℕ} → HeadNext h Der octets m
    → h.tag ≡ context_tag true n → h.constructed ≡ true
constructed_bit {h} {n} {m} {octets} next tagged = go (header_view next)
  where
    of_identifier : {id : List ℕ} {t : Tag} {b : Bool} → IsIdentifier Der id t b
        → t ≡ context_tag true n → b ≡ true
    of_identifier (of_tag {t = t} d) same = ap (λ x. (label x).constructed) same

    go : HeaderView h Der octets m → h.constructed ≡ true
    go (header_view_of id more d l ok e c) = of_identifier d tagged

-- under DER nothing is in segments
none_in_der : (v : Segmented) (h : Head) (octets : List ℕ) → h.constructed ≡ true
    → TakesSegmented v Der h octets → ⊥
none_in_der v h octets bit taken = go taken.1
  where
    go : TakesParts OctetString (segmented_octets v) Der h octets → ⊥
    go (as_contents flag same) = (let no : false ≡ true = sym flag ∙ bit in cc)
    go (as_segments has joined) = (let no : Der ≡ Ber = has.ber in cc)

-- the element in one piece is that of a lawful type
in_one_piece_lawful : (n : ℕ) → n < 2 ^ 32
    → IsLawful (context_tag false n) (TakesImplicit OctetString TakesSegmented (λ x. x))
    (λ v. IsCounted (segmented_octets v)) segmented_octets segmented_levels
in_one_piece_lawful n few =
    implicit_lawful (context_tag false n) (λ x. x) few segmented_lawful

-- it is read as it is written, and its tag decides whether it is present
pub string_laws : (n : ℕ) → n < 2 ^ 32
    → DecidedByTagLaws (string_tags n)
    (one_tag (context_tag false n) ∷ one_tag (context_tag true n) ∷ []) (ImplicitSegmentedNext n)
    (λ v. IsCounted (segmented_octets v))
    (λ v. element_octets (context_tag false n) (segmented_octets v))
string_laws n few =
    record {
      reads = record { only = only; every = every };
      starts =
          record { starts = λ v is. starts_wider (λ t h. inl h) ((lawful_starts piece).starts v is) };
      among = among;
      element = λ v is. record { tag = tag; contents = segmented_octets v; whole = refl };
      holds = holds;
    }
  where
    tag : Tag
    tag = context_tag false n

    piece : IsLawful (context_tag false n) (TakesImplicit OctetString TakesSegmented (λ x. x))
        (λ v. IsCounted (segmented_octets v)) segmented_octets segmented_levels
    piece = in_one_piece_lawful n few

    only : (octets : List ℕ) (v : Segmented) (m : ℕ) → ImplicitSegmentedNext n v Der octets m
        → EncodingNext (λ v. IsCounted (segmented_octets v))
        (λ v. element_octets (context_tag false n) (segmented_octets v)) v octets m
    only octets v m (in_one_piece e) = (elements_are_encodings piece).only octets v m e
    only octets v m (in_segments e) =
        absurd (none_in_der v (head_sans_eoc e.says) e.contents
        (constructed_bit e.next e.tagged) e.taken)

    every : (octets : List ℕ) (v : Segmented) (m : ℕ) → length octets < 2 ^ 32
        → EncodingNext (λ v. IsCounted (segmented_octets v))
        (λ v. element_octets (context_tag false n) (segmented_octets v)) v octets m
        → ImplicitSegmentedNext n v Der octets m
    every octets v m short e =
        in_one_piece ((elements_are_encodings piece).every octets v m short e)

    among : (t : Tag) → string_tags n t
        → IsIn (one_tag (context_tag false n) ∷ one_tag (context_tag true n) ∷ []) t
    among t (inl h) = inl h
    among t (inr h) = inr (inl h)

    holds : (v : Segmented) (rules : EncodingRules) (octets : List ℕ) (m : ℕ)
        → ImplicitSegmentedNext n v rules octets m → IsCounted (segmented_octets v)
    holds v rules octets m (in_one_piece e) = e.taken.0
    holds v rules octets m (in_segments e) = e.taken.0

-- the specification of the string as a field
abbrev pub implicit_segmented : ℕ → AlternativeSpec Segmented
implicit_segmented n =
    record {
      is_next = ImplicitSegmentedNext n;
      valid = λ v. IsCounted (segmented_octets v);
      encoding = λ v. element_octets (context_tag false n) (segmented_octets v);
      levels = element_levels segmented_levels;
      tags = string_tags n;
      first = one_tag (context_tag false n) ∷ one_tag (context_tag true n) ∷ [];
      begins = string_begins n;
      is_compatible = is_small n;
      laws = λ e. string_laws n (small n e);
    }
