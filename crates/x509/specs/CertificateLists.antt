-- The items of the lists of a certificate (RFC 5280, 4.1): its extensions (`AreExtensions`), the
-- levels of a name (`AreLevels`) and the attributes of a level (`AreAttributes`). A list has the
-- items of which the octets of the list are the encodings.
use Rattle.std.specs.Prelude.{◌≡◌, ◌⊎◌, true, List, ℕ, [], ◌++◌, if◌then◌else◌}
use Rattle.der.specs.Prelude.{Boolean, ObjectIdentifier, OctetString, Sequence, Set}
use Rattle.der.specs.Prelude.{element_octets}
use Rattle.der_asn1.specs.AnyRef.{IsAny, any_contents}
use Rattle.der_asn1.specs.Forms.{boolean_form, is_false, octets_form, oid_form}
use Rattle.der_asn1.specs.OctetsWith.{HasOctetsWith}
use Rattle.der_asn1.specs.SequenceOf.{IsListOf}
use Rattle.der_asn1.specs.SetOf.{AreAscending}
use Rattle.x509.specs.declared.asn1.attribute_type_and_value.AttributeTypeAndValue.{AttributeTypeAndValue}
use Rattle.x509.specs.declared.asn1.extension.Extension.{Extension}
use Rattle.x509.specs.declared.asn1.extensions.Extensions.{Extensions}
use Rattle.x509.specs.declared.asn1.name.Name.{Name}
use Rattle.x509.specs.declared.asn1.relative_distinguished_name.RelativeDistinguishedName.{RelativeDistinguishedName}

-- an extension: an OBJECT IDENTIFIER, a BOOLEAN that is absent if it is false, and an OCTET STRING
-- (4.1)
abbrev pub IsExtension : Extension → Type 0
IsExtension v =
    (oid_form v.extn_id.octets.now ≡ true)
    × (((is_false v.critical.0.octets.now ≡ true) ⊎ (boolean_form v.critical.0.octets.now ≡ true))
    × (octets_form v.extn_value.octets.now ≡ true))

abbrev pub extension_encoding : Extension → List ℕ
extension_encoding v =
    element_octets Sequence (element_octets ObjectIdentifier v.extn_id.octets.now
    ++ ((if is_false v.critical.0.octets.now then [] else element_octets Boolean v.critical.0.octets.now)
    ++ element_octets OctetString v.extn_value.octets.now))

-- the extensions of a list
abbrev pub AreExtensions : Extensions → Type 0
AreExtensions v = IsListOf IsExtension extension_encoding v.items.octets.now

-- an attribute: an OBJECT IDENTIFIER, and an element of any tag (4.1.2.4)
abbrev pub IsAttribute : AttributeTypeAndValue → Type 0
IsAttribute v = (oid_form v.oid.octets.now ≡ true) × IsAny v.value

abbrev pub attribute_encoding : AttributeTypeAndValue → List ℕ
attribute_encoding v =
    element_octets Sequence (element_octets ObjectIdentifier v.oid.octets.now
    ++ element_octets v.value.tag (any_contents v.value))

-- the attributes of the level of a name with these contents
abbrev pub AreAttributes : List ℕ → Type 0
AreAttributes octets = IsListOf IsAttribute attribute_encoding octets

-- the contents of a level of a name (4.1.2.4)
abbrev pub level_octets : RelativeDistinguishedName → List ℕ
level_octets v = v.attributes.elements.octets.now

-- a level: a SET OF attributes
abbrev pub IsLevel : RelativeDistinguishedName → Type 0
IsLevel v = HasOctetsWith (AreAscending IsAttribute attribute_encoding) level_octets v

abbrev pub level_encoding : RelativeDistinguishedName → List ℕ
level_encoding v = element_octets Set (level_octets v)

-- the levels of a name
abbrev pub AreLevels : Name → Type 0
AreLevels v = IsListOf IsLevel level_encoding v.levels.octets.now
