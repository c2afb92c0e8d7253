-- Rules for certificates (RFC 5280, 4.1 and 4.2): `Keeps`.
use Rattle.std.specs.Prelude.{◌≡◌, ◌≢◌, ◌⊎◌, List, [], All, IfSome, IsSome, IsSomeAnd}
use Rattle.x509.specs.CertificateLists.{AreExtensions}
use Rattle.x509_lint.specs.Checks.{HasSameAlgorithms, MatchesCertificateVersion}
use Rattle.x509_lint.specs.ExtensionChecks.{HasUsageIfKeyUsage, IsCriticalIfAuthority}
use Rattle.x509_lint.specs.ExtensionChecks.{IsCriticalIfRequired, IsNotCriticalIfForbidden}
use Rattle.x509_lint.specs.ExtensionChecks.{IsNotEmpty, IsOnlyInstance}
use Rattle.x509_lint.specs.ExtensionTests.{HasFound, given_of, wanted_of}
use Rattle.x509_lint.specs.ValueRules.{ValueKeeps}
use Rattle.x509_lint.specs.declared.extension_test.ExtensionTest.{ExtensionTest}
use Rattle.x509_lint.specs.declared.extension_test.ExtensionTest.TheVariants as test
use Rattle.x509_lint.specs.NameChecks.{NameKeeps}
use Rattle.x509_lint.specs.SerialNumbers.{IsSerialNumber}
use Rattle.x509_lint.specs.ValidityChecks.{HasFormsOfYears, IsOrdered}
use Rattle.x509.specs.declared.asn1.certificate.Certificate.{Certificate}
use Rattle.x509.specs.declared.asn1.extension.Extension.{Extension}
use Rattle.x509.specs.declared.asn1.extensions.Extensions.{Extensions}
use Rattle.x509.specs.declared.asn1.tbs_certificate.TbsCertificate.{TbsCertificate}
use Rattle.x509_lint.specs.declared.extension_rule.ExtensionRule.{ExtensionRule}
use Rattle.x509_lint.specs.declared.extension_rule.ExtensionRule.TheVariants as rule
use Rattle.x509_lint.specs.declared.rule.Rule.{Rule}
use Rattle.x509_lint.specs.declared.rule.Rule.TheVariants as of

-- the issuer has a level (4.1.2.4)
abbrev pub HasIssuer : TbsCertificate → Type 0
HasIssuer v = v.issuer.levels.octets.now ≢ []

-- one of the extensions is looked for
abbrev pub IsPresent : ExtensionTest → TbsCertificate → Type 0
IsPresent t v = IsSomeAnd v.extensions.0 (λ e. HasFound t e.0)

-- the subject has a name: the field `subject` has a level, or there is a critical subjectAltName
-- (4.1.2.6, 4.2.1.6)
abbrev pub HasSubject : TbsCertificate → Type 0
HasSubject v =
    (v.subject.levels.octets.now ≢ []) ⊎ IsPresent test.CriticalAltName v

-- the subject has a level if it is an authority (4.1.2.6)
abbrev pub HasAuthoritySubject : TbsCertificate → Type 0
HasAuthoritySubject v = IsPresent test.Authority v → v.subject.levels.octets.now ≢ []

-- issuer and subject have the same name, octet by octet
abbrev pub IsSelfIssued : TbsCertificate → Type 0
IsSelfIssued v = v.issuer.levels.octets.now ≡ v.subject.levels.octets.now

-- an authorityKeyIdentifier with a keyIdentifier is present, unless issuer and subject have the same
-- name (4.2.1.1)
abbrev pub HasKeyIdentifier : TbsCertificate → Type 0
HasKeyIdentifier v = IsSelfIssued v ⊎ IsPresent test.KeyIdentifier v

-- there are no unique identifiers (4.1.2.8)
abbrev pub HasNoUniqueIdentifier : TbsCertificate → Type 0
HasNoUniqueIdentifier v =
    (IsSome v.issuer_unique_id.0 → ⊥) × (IsSome v.subject_unique_id.0 → ⊥)

-- if extensions are present, there is at least one (4.1)
abbrev pub HasExtensionIfPresent : TbsCertificate → Type 0
HasExtensionIfPresent v = IfSome v.extensions.0 (λ e. e.0.items.octets.now ≢ [])

-- an extension among these keeps a rule
abbrev pub ExtensionKeeps : ExtensionRule → List Extension → Extension → Type 0
ExtensionKeeps rule.Instances items v = IsOnlyInstance items v
ExtensionKeeps rule.Critical items v = IsCriticalIfRequired v
ExtensionKeeps rule.NotCritical items v = IsNotCriticalIfForbidden v
ExtensionKeeps rule.NotEmpty items v = IsNotEmpty v
ExtensionKeeps rule.Usage items v = HasUsageIfKeyUsage v
ExtensionKeeps rule.AuthorityCritical items v = IsCriticalIfAuthority v
ExtensionKeeps (rule.Value r) items v = ValueKeeps r v.extn_id.octets.now v.extn_value.octets.now

-- all extensions keep a rule
abbrev pub ExtensionsKeep : ExtensionRule → Extensions → Type 0
ExtensionsKeep rule v = ∥ ((l : AreExtensions v) × All (ExtensionKeeps rule l.items) l.items) ∥₁

-- all extensions of a certificate keep a rule, if there are extensions
abbrev pub ExtensionsKeepIfPresent : ExtensionRule → TbsCertificate → Type 0
ExtensionsKeepIfPresent rule v = IfSome v.extensions.0 (λ e. ExtensionsKeep rule e.0)

-- a certificate keeps a rule
abbrev pub Keeps : Rule → Certificate → Type 0
Keeps of.VersionFields c = MatchesCertificateVersion c.tbs_certificate
Keeps of.SameAlgorithms c = HasSameAlgorithms c
Keeps of.SerialNumber c = IsSerialNumber c.tbs_certificate.serial_number.octets.now
Keeps of.IssuerPresent c = HasIssuer c.tbs_certificate
Keeps of.SubjectPresent c = HasSubject c.tbs_certificate
Keeps of.UniqueIdentifiers c = HasNoUniqueIdentifier c.tbs_certificate
Keeps of.AuthoritySubject c = HasAuthoritySubject c.tbs_certificate
Keeps of.KeyIdentifier c = HasKeyIdentifier c.tbs_certificate
Keeps of.TimeForms c = HasFormsOfYears c.tbs_certificate.validity
Keeps of.TimeOrder c = IsOrdered c.tbs_certificate.validity
Keeps (of.Issuer r) c = NameKeeps r c.tbs_certificate.issuer
Keeps (of.Subject r) c = NameKeeps r c.tbs_certificate.subject
Keeps of.ExtensionPresent c = HasExtensionIfPresent c.tbs_certificate
Keeps (of.Extension r) c = ExtensionsKeepIfPresent r c.tbs_certificate
Keeps (of.Pair p) c = IsPresent (given_of p) c.tbs_certificate → IsPresent (wanted_of p) c.tbs_certificate
