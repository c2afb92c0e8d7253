-- Items of lists as structs of C: extensions (`IsExtensionOf`), attributes of names
-- (`IsAttributeOf`), general names (`IsGeneralNameOf`), access descriptions
-- (`IsAccessDescriptionOf`) and those that are contents octets (`IsSpanOf`).
use Rattle.std.specs.Prelude.{◌≡◌, ◌↔◌, ℕ, true, List, [], ◌∷◌}
use Rattle.der_c_core.specs.declared.span.DerSpan.{DerSpan}
use Rattle.der_c_x509.specs.Fields.{IsAnyOf, IsNoAny}
use Rattle.der_c_x509.specs.declared.access.DerAccessDescription.{DerAccessDescription}
use Rattle.der_c_x509.specs.declared.attribute.DerAttribute.{DerAttribute}
use Rattle.der_c_x509.specs.declared.extension.DerExtension.{DerExtension}
use Rattle.der_c_x509.specs.declared.general_name.DerGeneralName.{DerGeneralName}
use Rattle.x509.specs.declared.asn1.access_description.AccessDescription.{AccessDescription}
use Rattle.x509.specs.declared.asn1.attribute_type_and_value.AttributeTypeAndValue.{AttributeTypeAndValue}
use Rattle.x509.specs.declared.asn1.extension.Extension.{Extension}
use Rattle.x509.specs.declared.asn1.general_name.GeneralName.{GeneralName}
use Rattle.x509.specs.declared.asn1.general_name.GeneralName.TheVariants as name
use Rattle.x509.specs.declared.asn1.other_name.OtherName.{OtherName}

-- an extension (RFC 5280, 4.2); the BOOLEAN `critical` is true where its octet is 255
pub record IsExtensionOf (v : Extension) (e : DerExtension) : Type 0 where
  pub identifier : e.identifier.octets.now ≡ v.extn_id.octets.now
  pub value : e.value.octets.now ≡ v.extn_value.octets.now
  pub critical : (e.critical ≡ true) ↔ (v.critical.0.octets.now ≡ 255 ∷ [])

-- an attribute of a name (4.1.2.4)
pub record IsAttributeOf (v : AttributeTypeAndValue) (a : DerAttribute) : Type 0 where
  pub identifier : a.identifier.octets.now ≡ v.oid.octets.now
  pub value : IsAnyOf v.value a.value

-- a name of a form that is all contents
pub record IsPlainName (form : ℕ) (octets : List ℕ) (n : DerGeneralName) : Type 0 where
  pub kind : n.kind ≡ form
  pub contents : n.contents.octets.now ≡ octets
  pub identifier : n.identifier.octets.now ≡ []
  pub value : IsNoAny n.value

-- a name whose form an object identifier gives
pub record IsOtherNameOf (v : OtherName) (n : DerGeneralName) : Type 0 where
  pub kind : n.kind ≡ 0
  pub contents : n.contents.octets.now ≡ []
  pub identifier : n.identifier.octets.now ≡ v.type_id.octets.now
  pub value : IsAnyOf v.value.0 n.value

-- a name of one of nine forms, by the number of its tag (4.2.1.6)
abbrev pub IsGeneralNameOf : GeneralName → DerGeneralName → Type 0
IsGeneralNameOf (name.OtherName v) = IsOtherNameOf v.0
IsGeneralNameOf (name.Rfc822Name v) = IsPlainName 1 v.0.octets.now
IsGeneralNameOf (name.DnsName v) = IsPlainName 2 v.0.octets.now
IsGeneralNameOf (name.X400Address v) = IsPlainName 3 v.0.octets.now
IsGeneralNameOf (name.DirectoryName v) = IsPlainName 4 v.0.levels.octets.now
IsGeneralNameOf (name.EdiPartyName v) = IsPlainName 5 []
IsGeneralNameOf (name.UniformResourceIdentifier v) = IsPlainName 6 v.0.octets.now
IsGeneralNameOf (name.IpAddress v) = IsPlainName 7 v.0.octets.now
IsGeneralNameOf (name.RegisteredId v) = IsPlainName 8 v.0.octets.now

-- a value as its contents octets, such as the purpose of a key (4.2.1.12)
abbrev pub IsSpanOf : {A : Type 0} → (A → List ℕ) → A → DerSpan → Type 0
IsSpanOf octets_of v s = s.octets.now ≡ octets_of v

-- which information is found, and where (4.2.2.1)
pub record IsAccessDescriptionOf (v : AccessDescription) (d : DerAccessDescription) : Type 0 where
  pub method : d.method.octets.now ≡ v.access_method.octets.now
  pub location : IsGeneralNameOf v.access_location d.location
