-- Lemmas on names: attributes and levels with the same encoding match the same ones.
use Rattle.std.proofs.Common.{◌≡◌, ◌⊎◌, ◌&&◌, ℕ, false, true, List, [], ◌∷◌, inl, inr, sym, subst, ◌∙◌}
use Rattle.std.proofs.Math.Logic.{∥∥₁_map}
use Rattle.der.specs.Prelude.{Tag}
use Rattle.x509_names.specs.PreparedText.{IsPlainText, TextsMatch}
use Rattle.x509.proofs.EncodingLemmas.{attribute_same, level_same}
use Rattle.x509.specs.CertificateLists.{IsAttribute, IsLevel, attribute_encoding, level_encoding, level_octets}
use Rattle.x509.specs.declared.asn1.attribute_type_and_value.AttributeTypeAndValue.{AttributeTypeAndValue}
use Rattle.x509.specs.declared.asn1.relative_distinguished_name.RelativeDistinguishedName.{RelativeDistinguishedName}
use Rattle.x509_names.specs.Lists.{SomeItem}
use Rattle.x509_names.specs.NameMatching.{AreAsMany, AttributesAgree, HasMatch, HaveMatches, LevelsAgree, is_text_tag}
use Rattle.x509_names.specs.declared.matching.matching.Matching.{Matching}
use Rattle.x509_names.specs.declared.matching.matching.Matching.TheVariants.{Certain, Possible, Prepared}

-- what two values with these tags and contents need, to match
abbrev pub Match : Tag → List ℕ → Tag → List ℕ → Type 0
Match t c u d =
    (((is_text_tag t && is_text_tag u) ≡ true) × TextsMatch c d)
    ⊎ (((is_text_tag t && is_text_tag u) ≡ false) × ((t ≡ u) × (c ≡ d)))

abbrev Exact : Tag → List ℕ → Tag → List ℕ → Type 0
Exact t c u d = (((is_text_tag t && is_text_tag u) ≡ true) × (IsPlainText c × IsPlainText d)) ⊎ ((t ≡ u) × (c ≡ d))

abbrev Agree : Matching → Tag → List ℕ → Tag → List ℕ → Type 0
Agree Prepared t c u d = Match t c u d
Agree Certain t c u d = Exact t c u d × Match t c u d
Agree Possible t c u d = Exact t c u d → Match t c u d

-- values with the same tags and contents agree in each sense
first_agrees : (m : Matching) (t t2 : Tag) (c c2 : List ℕ) (u : Tag) (d : List ℕ) → t ≡ t2 → c ≡ c2 → Agree m t c u d → Agree m t2 c2 u d
first_agrees m t t2 c c2 u d e f h = subst (λ x. Agree m t2 x u d) f (subst (λ x. Agree m x c u d) e h)

second_agrees : (m : Matching) (t : Tag) (c : List ℕ) (u u2 : Tag) (d d2 : List ℕ) → u ≡ u2 → d ≡ d2 → Agree m t c u d → Agree m t c u2 d2
second_agrees m t c u u2 d d2 e f h = subst (λ x. Agree m t c u2 x) f (subst (λ x. Agree m t c x d) e h)

-- the first attribute is one with the same encoding
pub first_same : (m : Matching) (x v w : AttributeTypeAndValue) → attribute_encoding v ≡ attribute_encoding w → AttributesAgree m v x → AttributesAgree m w x
first_same Prepared x v w e h = let same = attribute_same v w e in (sym same.0 ∙ h.0, first_agrees Prepared _ _ _ _ _ _ same.1.0 same.1.1 h.1)
first_same Certain x v w e h = let same = attribute_same v w e in (sym same.0 ∙ h.0, first_agrees Certain _ _ _ _ _ _ same.1.0 same.1.1 h.1)
first_same Possible x v w e h = let same = attribute_same v w e in (sym same.0 ∙ h.0, first_agrees Possible _ _ _ _ _ _ same.1.0 same.1.1 h.1)

pub second_same : (m : Matching) (x v w : AttributeTypeAndValue) → attribute_encoding v ≡ attribute_encoding w → AttributesAgree m x v → AttributesAgree m x w
second_same Prepared x v w e h = let same = attribute_same v w e in (h.0 ∙ same.0, second_agrees Prepared _ _ _ _ _ _ same.1.0 same.1.1 h.1)
second_same Certain x v w e h = let same = attribute_same v w e in (h.0 ∙ same.0, second_agrees Certain _ _ _ _ _ _ same.1.0 same.1.1 h.1)
second_same Possible x v w e h = let same = attribute_same v w e in (h.0 ∙ same.0, second_agrees Possible _ _ _ _ _ _ same.1.0 same.1.1 h.1)

pub keep_second : (m : Matching) (x v w : AttributeTypeAndValue) → IsAttribute v → IsAttribute w → attribute_encoding v ≡ attribute_encoding w → AttributesAgree m x v → AttributesAgree m x w
keep_second m x v w is are e h = second_same m x v w e h

some_kept : (m : Matching) (v w : AttributeTypeAndValue) → attribute_encoding v ≡ attribute_encoding w → (items : List AttributeTypeAndValue) → SomeItem (AttributesAgree m v) items → SomeItem (AttributesAgree m w) items
some_kept m v w e [] h = h
some_kept m v w e (x ∷ items) (inl one) = inl (first_same m x v w e one)
some_kept m v w e (x ∷ items) (inr more) = inr (some_kept m v w e items more)

pub keep_match : (m : Matching) (octets : List ℕ) (v w : AttributeTypeAndValue) → IsAttribute v → IsAttribute w → attribute_encoding v ≡ attribute_encoding w → HasMatch m octets v → HasMatch m octets w
keep_match m octets v w is are e h = ∥∥₁_map h (λ l. (l.0, some_kept m v w e l.0.items l.1))

pub keep_none : (v w x y : AttributeTypeAndValue) → IsAttribute v → IsAttribute w → IsAttribute x → IsAttribute y → attribute_encoding v ≡ attribute_encoding w → attribute_encoding x ≡ attribute_encoding y → Unit {0} → Unit {0}
keep_none v w x y a b c d e f h = tt

pub keep_levels : (m : Matching) (v w x y : RelativeDistinguishedName) → IsLevel v → IsLevel w → IsLevel x → IsLevel y → level_encoding v ≡ level_encoding w → level_encoding x ≡ level_encoding y → LevelsAgree m v x → LevelsAgree m w y
keep_levels m v w x y a b c d e f h =
    subst (λ (o : List ℕ). AreAsMany o (level_octets y) × HaveMatches m o (level_octets y)) (level_same v w e)
    (subst (λ (o : List ℕ). AreAsMany (level_octets v) o × HaveMatches m (level_octets v) o) (level_same x y f) h)
