-- The types of the values of extensions (RFC 5280, 4.2.1 and 4.2.2): `HasValueOfType`.
use Rattle.std.specs.Prelude.{◌≡◌, ℕ, true, List}
use Rattle.der.specs.Prelude.{BitString, Integer, OctetString, Sequence}
use Rattle.der_asn1.specs.AnyRef.{IsAny}
use Rattle.der_asn1.specs.Forms.{integer_form}
use Rattle.der_asn1.specs.NamedBits.{named_bits_form}
use Rattle.x509.specs.ExtensionIdentifiers.{id_ce}
use Rattle.x509.specs.contracts.asn1.access_description.AccessDescriptionItem.TheImpl as access
use Rattle.x509.specs.contracts.asn1.attribute.AttributeItem.TheImpl as attribute
use Rattle.x509.specs.contracts.asn1.authority_key_identifier.AuthorityKeyIdentifierItem.TheImpl as authority_key
use Rattle.x509.specs.contracts.asn1.basic_constraints.BasicConstraintsItem.TheImpl as constraints
use Rattle.x509.specs.contracts.asn1.distribution_point.DistributionPointItem.TheImpl as point
use Rattle.x509.specs.contracts.asn1.general_name.GeneralNameItem.TheImpl as general_name
use Rattle.x509.specs.contracts.asn1.name_constraints.NameConstraintsItem.TheImpl as subtrees
use Rattle.x509.specs.contracts.asn1.policy_constraints.PolicyConstraintsItem.TheImpl as skips
use Rattle.x509.specs.contracts.asn1.policy_information.PolicyInformationItem.TheImpl as policy
use Rattle.x509.specs.contracts.asn1.policy_mapping.PolicyMappingItem.TheImpl as mapping
use Rattle.x509_lint.specs.Elements.{EachElement, IsElement, any_encoding}
use Rattle.x509_lint.specs.ExtensionChecks.{IsAccess}
use Rattle.x509_lint.specs.ExtensionKinds.{IsAltNames, IsPoints}
use Rattle.x509_lint.specs.Items.{AreItems, IsListValue, IsStructValue}
use Rattle.x509_lint.specs.Parts.{PartKeeps}
use Rattle.x509_lint.specs.declared.part_test.PartTest.TheVariants as part

-- a keyUsage is a BIT STRING without trailing zero bits (4.2.1.3)
abbrev pub IsUsageValue : List ℕ → Type 0
IsUsageValue v = (c : List ℕ) × IsElement v BitString c × (named_bits_form c ≡ true)

-- a subjectKeyIdentifier is an OCTET STRING (4.2.1.2)
abbrev pub IsIdentifierValue : List ℕ → Type 0
IsIdentifierValue v = (c : List ℕ) × IsElement v OctetString c

-- an inhibitAnyPolicy is an INTEGER (4.2.1.14)
abbrev pub IsNumberValue : List ℕ → Type 0
IsNumberValue v = (c : List ℕ) × IsElement v Integer c × (integer_form c ≡ true)

-- an extKeyUsage is a SEQUENCE OF OBJECT IDENTIFIERs (4.2.1.12)
abbrev pub ArePurposes : List ℕ → Type 0
ArePurposes c = AreItems IsAny any_encoding c × EachElement (PartKeeps part.Identifier) c

abbrev pub IsPurposesValue : List ℕ → Type 0
IsPurposesValue v = (c : List ℕ) × IsElement v Sequence c × ArePurposes c

-- names, attributes, and descriptions of places (4.2.1.6 to 4.2.1.8, 4.2.1.13, 4.2.1.15, 4.2.2)
abbrev pub HasPlaces : List ℕ → List ℕ → Type 0
HasPlaces id v =
    (IsAltNames id → IsListValue general_name.ghosts.item.valid general_name.ghosts.item.octets v)
    × (id ≡ id_ce 9 → IsListValue attribute.ghosts.item.valid attribute.ghosts.item.octets v)
    × (IsPoints id → IsListValue point.ghosts.item.valid point.ghosts.item.octets v)
    × (IsAccess id → IsListValue access.ghosts.item.valid access.ghosts.item.octets v)

-- policies and purposes (4.2.1.4, 4.2.1.5, 4.2.1.11, 4.2.1.12, 4.2.1.14)
abbrev pub HasPolicies : List ℕ → List ℕ → Type 0
HasPolicies id v =
    (id ≡ id_ce 32 → IsListValue policy.ghosts.item.valid policy.ghosts.item.octets v)
    × (id ≡ id_ce 33 → IsListValue mapping.ghosts.item.valid mapping.ghosts.item.octets v)
    × (id ≡ id_ce 36 → IsStructValue skips.ghosts.item.valid skips.ghosts.item.octets v)
    × (id ≡ id_ce 37 → IsPurposesValue v)
    × (id ≡ id_ce 54 → IsNumberValue v)

-- keys and constraints (4.2.1.1 to 4.2.1.3, 4.2.1.9, 4.2.1.10)
abbrev pub HasKeys : List ℕ → List ℕ → Type 0
HasKeys id v =
    (id ≡ id_ce 35
    → IsStructValue authority_key.ghosts.item.valid authority_key.ghosts.item.octets v)
    × (id ≡ id_ce 14 → IsIdentifierValue v)
    × (id ≡ id_ce 15 → IsUsageValue v)
    × (id ≡ id_ce 19 → IsStructValue constraints.ghosts.item.valid constraints.ghosts.item.octets v)
    × (id ≡ id_ce 30 → IsStructValue subtrees.ghosts.item.valid subtrees.ghosts.item.octets v)

abbrev pub HasPoliciesAndKeys : List ℕ → List ℕ → Type 0
HasPoliciesAndKeys id v = HasPolicies id v × HasKeys id v

-- the value of an extension with this identifier is one of the type that RFC 5280 gives it
abbrev pub HasValueOfType : List ℕ → List ℕ → Type 0
HasValueOfType id v = HasPlaces id v × HasPoliciesAndKeys id v
