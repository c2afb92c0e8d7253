-- Lemmas on the encodings of the items of a certificate's lists: equal encodings have equal fields.
use Rattle.std.proofs.Common.{◌≡◌, ℕ, Bool, true, false, List, [], ◌∷◌, ◌++◌, if◌then◌else◌, refl, sym, ap, ◌∙◌}
use Rattle.der.specs.Prelude.{Boolean, ObjectIdentifier, OctetString, Sequence, Set, Tag, element_octets}
use Rattle.der.proofs.DelimitedLemmas.{element_front, elements_delimited}
use Rattle.der_asn1.specs.AnyRef.{any_contents}
use Rattle.der_asn1.specs.Forms.{is_false}
use Rattle.x509.proofs.ItemLemmas.{AreApartItems}
use Rattle.x509.specs.CertificateLists.{IsExtension, extension_encoding, IsAttribute, attribute_encoding, IsLevel, level_encoding, level_octets}
use Rattle.x509.specs.declared.asn1.attribute_type_and_value.AttributeTypeAndValue.{AttributeTypeAndValue}
use Rattle.x509.specs.declared.asn1.extension.Extension.{Extension}
use Rattle.x509.specs.declared.asn1.relative_distinguished_name.RelativeDistinguishedName.{RelativeDistinguishedName}

append_nil : (l : List ℕ) → l ++ [] ≡ l
append_nil [] = refl
append_nil (o ∷ l) = ap (λ x. o ∷ x) (append_nil l)

empty_front : (a x : List ℕ) → a ++ x ≡ [] → a ≡ []
empty_front [] x e = refl
empty_front (o ∷ a) x e = absurd (cc)

-- elements with one tag
pub elements_apart : {A : Type 0} (valid : A → Type 0) (tag : Tag) (contents : A → List ℕ) → AreApartItems valid (λ v. element_octets tag (contents v))
elements_apart valid tag contents =
    record {
      front = λ v w x y is are e. (let f = element_front tag tag (contents v) (contents w) x y e in (ap (element_octets tag) f.1, f.2));
      some = λ v x e. (elements_delimited (λ _. tag) contents).some v (empty_front (element_octets tag (contents v)) x e);
    }

-- one element alone
pub element_same : (t u : Tag) (c d : List ℕ) → element_octets t c ≡ element_octets u d → (t ≡ u) × (c ≡ d)
element_same t u c d e =
    let f = element_front t u c d [] [] (ap (λ l. l ++ []) e) in (f.0, f.1)

other_tags : OctetString ≡ Boolean → ⊥
other_tags e = cc

-- a BOOLEAN that may be absent, and an OCTET STRING
defaulted_same : (b e : Bool) (c d v w : List ℕ)
    → (if b then [] else element_octets Boolean c) ++ element_octets OctetString v ≡ (if e then [] else element_octets Boolean d) ++ element_octets OctetString w
    → (b ≡ e) × (v ≡ w)
defaulted_same true true c d v w h = (refl, (element_same OctetString OctetString v w h).1)
defaulted_same true false c d v w h =
    absurd (other_tags (element_front OctetString Boolean v d [] (element_octets OctetString w) (append_nil (element_octets OctetString v) ∙ h)).0)
defaulted_same false true c d v w h =
    absurd (other_tags (element_front OctetString Boolean w c [] (element_octets OctetString v) (append_nil (element_octets OctetString w) ∙ sym h)).0)
defaulted_same false false c d v w h =
    (refl, (element_same OctetString OctetString v w (element_front Boolean Boolean c d (element_octets OctetString v) (element_octets OctetString w) h).2).1)

extension_octets_same : (i j : List ℕ) (b e : Bool) (c d v w : List ℕ)
    → element_octets Sequence (element_octets ObjectIdentifier i ++ ((if b then [] else element_octets Boolean c) ++ element_octets OctetString v))
    ≡ element_octets Sequence (element_octets ObjectIdentifier j ++ ((if e then [] else element_octets Boolean d) ++ element_octets OctetString w))
    → (i ≡ j) × ((b ≡ e) × (v ≡ w))
extension_octets_same i j b e c d v w h =
    let f = (element_same Sequence Sequence _ _ h).1 in
    let g = element_front ObjectIdentifier ObjectIdentifier i j _ _ f in
    (g.1, defaulted_same b e c d v w g.2)

-- extensions with the same encoding have the same fields
pub extension_same : (v w : Extension) → extension_encoding v ≡ extension_encoding w
    → (v.extn_id.octets.now ≡ w.extn_id.octets.now) × ((is_false v.critical.0.octets.now ≡ is_false w.critical.0.octets.now) × (v.extn_value.octets.now ≡ w.extn_value.octets.now))
extension_same v w h =
    extension_octets_same v.extn_id.octets.now w.extn_id.octets.now (is_false v.critical.0.octets.now) (is_false w.critical.0.octets.now)
    v.critical.0.octets.now w.critical.0.octets.now v.extn_value.octets.now w.extn_value.octets.now h

-- attributes with the same encoding have the same fields
pub attribute_same : (v w : AttributeTypeAndValue) → attribute_encoding v ≡ attribute_encoding w
    → (v.oid.octets.now ≡ w.oid.octets.now) × ((v.value.tag ≡ w.value.tag) × (any_contents v.value ≡ any_contents w.value))
attribute_same v w h =
    let f = (element_same Sequence Sequence _ _ h).1 in
    let g = element_front ObjectIdentifier ObjectIdentifier v.oid.octets.now w.oid.octets.now _ _ f in
    (g.1, element_same v.value.tag w.value.tag (any_contents v.value) (any_contents w.value) g.2)

-- levels with the same encoding have the same contents
pub level_same : (v w : RelativeDistinguishedName) → level_encoding v ≡ level_encoding w → level_octets v ≡ level_octets w
level_same v w h = (element_same Set Set (level_octets v) (level_octets w) h).1

pub extensions_apart : AreApartItems IsExtension extension_encoding
extensions_apart =
    elements_apart IsExtension Sequence (λ v. element_octets ObjectIdentifier v.extn_id.octets.now
    ++ ((if is_false v.critical.0.octets.now then [] else element_octets Boolean v.critical.0.octets.now) ++ element_octets OctetString v.extn_value.octets.now))

pub attributes_apart : AreApartItems IsAttribute attribute_encoding
attributes_apart =
    elements_apart IsAttribute Sequence (λ v. element_octets ObjectIdentifier v.oid.octets.now ++ element_octets v.value.tag (any_contents v.value))

pub levels_apart : AreApartItems IsLevel level_encoding
levels_apart = elements_apart IsLevel Set level_octets
