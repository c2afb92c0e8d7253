-- Names compared (RFC 5280, 7.1): `NamesMatch`, whether one is within the subtree of another
-- (`IsNameWithin`), and whether that comparison is decided (`IsDecided`).
use Rattle.std.specs.Prelude.{◌≡◌, ◌⊎◌, ◌&&◌, ℕ, Bool, false, true, List, All}
use Rattle.der.specs.Prelude.{Ia5String, PrintableString, Tag, Utf8String}
use Rattle.der_asn1.specs.AnyRef.{any_contents}
use Rattle.der_asn1.specs.declared.elements.any.AnyRef.{AnyRef}
use Rattle.x509_names.specs.PreparedText.{IsPlainText, TextsMatch}
use Rattle.x509.specs.CertificateLists.{IsAttribute, IsLevel, attribute_encoding, level_encoding}
use Rattle.x509.specs.CertificateLists.{level_octets}
use Rattle.x509.specs.declared.asn1.attribute_type_and_value.AttributeTypeAndValue.{AttributeTypeAndValue}
use Rattle.x509.specs.declared.asn1.name.Name.{Name}
use Rattle.x509.specs.declared.asn1.relative_distinguished_name.RelativeDistinguishedName.{RelativeDistinguishedName}
use Rattle.x509_names.specs.Lists.{AreListsWith, IsListWith, Pairwise, SomeItem}
use Rattle.x509_names.specs.declared.matching.matching.Matching.{Matching}
use Rattle.x509_names.specs.declared.matching.matching.Matching.TheVariants.{Certain, Possible, Prepared}

-- the string types whose values are prepared: PrintableString and UTF8String (7.1), and IA5String,
-- that of domainComponent (7.3) and emailAddress
abbrev pub is_text_tag : Tag → Bool
is_text_tag PrintableString = true
is_text_tag Utf8String = true
is_text_tag Ia5String = true
is_text_tag _ = false

-- the same tag, and the same contents octet by octet
abbrev pub IsSameElement : AnyRef → AnyRef → Type 0
IsSameElement v w = (v.tag ≡ w.tag) × (any_contents v ≡ any_contents w)

-- two texts match after preparation; other values are the same element, octet by octet
abbrev pub ValuesMatch : AnyRef → AnyRef → Type 0
ValuesMatch v w =
    (((is_text_tag v.tag && is_text_tag w.tag) ≡ true)
    × TextsMatch (any_contents v) (any_contents w))
    ⊎ (((is_text_tag v.tag && is_text_tag w.tag) ≡ false) × IsSameElement v w)

-- two texts of printed characters of ASCII and spaces
abbrev pub ArePlainTexts : AnyRef → AnyRef → Type 0
ArePlainTexts v w =
    ((is_text_tag v.tag && is_text_tag w.tag) ≡ true)
    × (IsPlainText (any_contents v) × IsPlainText (any_contents w))

-- the comparison of two values is exact: the standard gives the same answer. It may not be for
-- other characters, nor for other types, as BMPString
abbrev pub AreExact : AnyRef → AnyRef → Type 0
AreExact v w = ArePlainTexts v w ⊎ IsSameElement v w

-- two values match; certainly, if the comparison is exact; possibly, if it is not
abbrev pub ValuesAgree : Matching → AnyRef → AnyRef → Type 0
ValuesAgree Prepared v w = ValuesMatch v w
ValuesAgree Certain v w = AreExact v w × ValuesMatch v w
ValuesAgree Possible v w = AreExact v w → ValuesMatch v w

-- the same type, and values that match
abbrev pub AttributesAgree : Matching → AttributeTypeAndValue → AttributeTypeAndValue → Type 0
AttributesAgree m v w = (v.oid.octets.now ≡ w.oid.octets.now) × ValuesAgree m v.value w.value

abbrev pub AttributesMatch : AttributeTypeAndValue → AttributeTypeAndValue → Type 0
AttributesMatch v w = AttributesAgree Prepared v w

-- octets are a list of attributes, with a property
abbrev pub AreAttributesWith : (List AttributeTypeAndValue → Type 0) → List ℕ → Type 0
AreAttributesWith P octets = IsListWith IsAttribute attribute_encoding P octets

-- an attribute matches one of those with these octets
abbrev pub HasMatch : Matching → List ℕ → AttributeTypeAndValue → Type 0
HasMatch m octets v = AreAttributesWith (SomeItem (AttributesAgree m v)) octets

-- as many attributes, and a match for each in the other level
abbrev pub AreAsMany : List ℕ → List ℕ → Type 0
AreAsMany first second =
    AreListsWith IsAttribute attribute_encoding (Pairwise (λ _ _. Unit {0}) true) first second

abbrev pub HaveMatches : Matching → List ℕ → List ℕ → Type 0
HaveMatches m first second = AreAttributesWith (All (HasMatch m second)) first

abbrev pub LevelsAgree
    : Matching → RelativeDistinguishedName → RelativeDistinguishedName → Type 0
LevelsAgree m v w =
    AreAsMany (level_octets v) (level_octets w) × HaveMatches m (level_octets v) (level_octets w)

abbrev pub LevelsMatch : RelativeDistinguishedName → RelativeDistinguishedName → Type 0
LevelsMatch v w = LevelsAgree Prepared v w

-- the levels of one name match those of another in pairs; the other may have more, if its beginning
-- alone counts
abbrev pub LevelsPair : Matching → Bool → List ℕ → List ℕ → Type 0
LevelsPair m whole first second =
    AreListsWith IsLevel level_encoding (Pairwise (LevelsAgree m) whole) first second

abbrev pub HasLevelsOf : Matching → Bool → Name → Name → Type 0
HasLevelsOf m whole v w = LevelsPair m whole v.levels.octets.now w.levels.octets.now

-- as many levels, which match in the same order
abbrev pub NamesMatch : Name → Name → Type 0
NamesMatch v w = HasLevelsOf Prepared true v w

-- a name begins with the levels of another
abbrev pub IsNameWithin : Name → Name → Type 0
IsNameWithin base name = HasLevelsOf Prepared false base name

abbrev pub IsCertainlyWithin : Name → Name → Type 0
IsCertainlyWithin base name = HasLevelsOf Certain false base name

-- the values of no level of the base are certainly different
abbrev pub IsPossiblyWithin : Name → Name → Type 0
IsPossiblyWithin base name = HasLevelsOf Possible false base name

-- a name that is possibly within a base is certainly within it. So it is certain of each name
-- whether it is within
abbrev pub IsDecided : Name → Name → Type 0
IsDecided base name = IsPossiblyWithin base name → IsCertainlyWithin base name
