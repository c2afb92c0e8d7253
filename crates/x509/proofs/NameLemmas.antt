-- Lemmas on the attributes of the levels of a name.
use Rattle.std.proofs.Common.{◌≡◌, ℕ, List, [], ◌∷◌, ◌++◌, refl, sym, ap, ◌∙◌, append-nil, append_assoc}
use Rattle.std.specs.Prelude.{bytes_eq}
use Rattle.std.proofs.lemmas.List.Elements.{filter-append}
use Rattle.der_asn1.specs.SequenceOf.{IsListOf}
use Rattle.x509.specs.Find.{HasOccurrence, of_type, occurrence, occurrence_and}
use Rattle.x509.specs.Names.{AreAttributes}
use Rattle.x509.specs.declared.asn1.attribute_type_and_value.AttributeTypeAndValue.{AttributeTypeAndValue}
use Rattle.x509.specs.declared.asn1.relative_distinguished_name.RelativeDistinguishedName.{RelativeDistinguishedName}
use Rattle.x509.specs.declared.find.occurrence.Occurrence.{Occurrence}

-- two lists together
pub occurrence_both : {A : Type 0} (vs ws : List A) → occurrence (vs ++ ws) ≡ occurrence_and (occurrence vs) (occurrence ws)
occurrence_both vs [] = ap occurrence (append-nil vs)
occurrence_both [] (w ∷ []) = refl
occurrence_both (v ∷ []) (w ∷ []) = refl
occurrence_both (v ∷ u ∷ vs) (w ∷ []) = refl
occurrence_both [] (w ∷ x ∷ ws) = refl
occurrence_both (v ∷ []) (w ∷ x ∷ ws) = refl
occurrence_both (v ∷ u ∷ vs) (w ∷ x ∷ ws) = refl

-- what is known of the levels so far: their attributes, and what these have with an identifier
pub record IsFinding (valid : AttributeTypeAndValue → Type 0) (encoding : AttributeTypeAndValue → List ℕ) (oid : List ℕ) (levels : List RelativeDistinguishedName) (found : Occurrence AttributeTypeAndValue) : Type 0 where
  pub attributes : List AttributeTypeAndValue
  pub all : AreAttributes valid encoding levels attributes
  pub only : found ≡ occurrence (of_type (λ a. a.oid.octets.now) oid attributes)

module _ {valid : AttributeTypeAndValue → Type 0} {encoding : AttributeTypeAndValue → List ℕ} where
  -- one more level
  level_after : (levels : List RelativeDistinguishedName) (attributes : List AttributeTypeAndValue) (r : RelativeDistinguishedName) (l : IsListOf valid encoding r.attributes.elements.octets.now)
      → AreAttributes valid encoding levels attributes → AreAttributes valid encoding (levels ++ r ∷ []) (attributes ++ l.items)
  level_after [] attributes r l none = (l, [], refl, ap (λ x. x ++ l.items) none ∙ sym (append-nil l.items))
  level_after (q ∷ levels) attributes r l (first, others, are, e) =
      (first, others ++ l.items, level_after levels others r l are, ap (λ x. x ++ l.items) e ∙ append_assoc first.items others l.items)

  pub finds_on : {oid : List ℕ} {levels : List RelativeDistinguishedName} {found more : Occurrence AttributeTypeAndValue} (r : RelativeDistinguishedName) → IsFinding valid encoding oid levels found
      → HasOccurrence valid encoding (λ a. a.oid.octets.now) oid r.attributes.elements.octets.now more → (both : Occurrence AttributeTypeAndValue) → both ≡ occurrence_and found more
      → IsFinding valid encoding oid (levels ++ r ∷ []) both
  finds_on {oid} {levels} {found} {more} r finding h both e =
      let test = λ (a : AttributeTypeAndValue). bytes_eq a.oid.octets.now oid in
      record {
        attributes = finding.attributes ++ h.list.items;
        all = level_after levels finding.attributes r h.list finding.all;
        only =
            e ∙ ap (λ x. occurrence_and x more) finding.only ∙ ap (occurrence_and (occurrence (of_type (λ a. a.oid.octets.now) oid finding.attributes))) h.only
            ∙ sym (occurrence_both (of_type (λ a. a.oid.octets.now) oid finding.attributes) (of_type (λ a. a.oid.octets.now) oid h.list.items)) ∙ ap occurrence (sym (filter-append test finding.attributes h.list.items));
      }
