-- Rules for revocation lists (RFC 5280, 5.1 to 5.3): `ListKeeps`.
use Rattle.std.specs.Prelude.{◌≡◌, ◌≢◌, [], IfSome, IsSome, IsSomeAnd}
use Rattle.x509.specs.declared.asn1.certificate_list.CertificateList.{CertificateList}
use Rattle.x509.specs.declared.asn1.tbs_cert_list.TbsCertList.{TbsCertList}
use Rattle.x509_lint.specs.CertificateChecks.{ExtensionsKeep}
use Rattle.x509_lint.specs.Checks.{IsSameAlgorithm, certificate_version_number}
use Rattle.x509_lint.specs.Elements.{EachElement}
use Rattle.x509_lint.specs.EntryTests.{EntryKeeps}
use Rattle.x509_lint.specs.ExtensionTests.{HasFound}
use Rattle.x509_lint.specs.NameChecks.{NameKeeps}
use Rattle.x509_lint.specs.ValidityChecks.{HasFormOfYear}
use Rattle.x509_lint.specs.declared.entry_test.EntryTest.{EntryTest}
use Rattle.x509_lint.specs.declared.entry_test.EntryTest.TheVariants as entry
use Rattle.x509_lint.specs.declared.identifier.Identifier.TheVariants.{InvalidityDate, Reason}
use Rattle.x509_lint.specs.declared.extension_rule.ExtensionRule.TheVariants as rule
use Rattle.x509_lint.specs.declared.extension_test.ExtensionTest.{ExtensionTest}
use Rattle.x509_lint.specs.declared.extension_test.ExtensionTest.TheVariants as test
use Rattle.x509_lint.specs.declared.list_rule.ListRule.{ListRule}
use Rattle.x509_lint.specs.declared.list_rule.ListRule.TheVariants as of

-- a version that is present is 2, which has the number 1; and it is present with extensions
-- (5.1.2.1)
abbrev pub HasListVersion : TbsCertList → Type 0
HasListVersion v =
    IfSome v.version.0 (λ w. certificate_version_number w.octets.now ≡ 1)
    × (IsSome v.crl_extensions.0 → IsSome v.version.0)

-- both times have the forms that their years require (5.1.2.4, 5.1.2.5)
abbrev pub HasListTimes : TbsCertList → Type 0
HasListTimes v = HasFormOfYear v.this_update × IfSome v.next_update.0 HasFormOfYear

-- the list of revoked certificates is absent, or has one (5.1.2.6)
abbrev pub HasRevokedIfPresent : TbsCertList → Type 0
HasRevokedIfPresent v = IfSome v.revoked_certificates.0 (λ r. r.octets.now ≢ [])

-- the list of extensions is absent, or has one (5.1.2.7)
abbrev pub HasListExtensionIfPresent : TbsCertList → Type 0
HasListExtensionIfPresent v = IfSome v.crl_extensions.0 (λ e. e.0.items.octets.now ≢ [])

-- no extension is there twice (5.2)
abbrev pub HasSingleExtensions : TbsCertList → Type 0
HasSingleExtensions v = IfSome v.crl_extensions.0 (λ e. ExtensionsKeep rule.Instances e.0)

-- one of the extensions is looked for
abbrev pub HasInList : ExtensionTest → TbsCertList → Type 0
HasInList t v = IsSomeAnd v.crl_extensions.0 (λ e. HasFound t e.0)

-- all entries keep a test, if there are entries
abbrev pub EntriesKeep : EntryTest → TbsCertList → Type 0
EntriesKeep t v = IfSome v.revoked_certificates.0 (λ r. EachElement (EntryKeeps t) r.octets.now)

-- the version is present, if an entry has extensions (5.1.2.1)
abbrev pub HasEntryVersion : TbsCertList → Type 0
HasEntryVersion v = (EntriesKeep entry.NoExtensions v → ⊥) → IsSome v.version.0

-- a freshestCRL is not in a list of changes (5.2.6)
abbrev pub HasFreshestOfComplete : TbsCertList → Type 0
HasFreshestOfComplete v = HasInList test.Freshest v → HasInList test.Delta v → ⊥

-- the reason removeFromCRL is in a list of changes alone (5.3.1)
abbrev pub HasRemovedInChanges : TbsCertList → Type 0
HasRemovedInChanges v = (HasInList test.Delta v → ⊥) → EntriesKeep entry.NotRemoved v

-- a certificateIssuer is in an indirect list alone (5.3.3)
abbrev pub HasIssuerOfIndirect : TbsCertList → Type 0
HasIssuerOfIndirect v = (EntriesKeep entry.NoIssuer v → ⊥) → HasInList test.IndirectPoint v

-- a revocation list keeps a rule
abbrev pub ListKeeps : ListRule → CertificateList → Type 0
ListKeeps of.SameAlgorithms l = IsSameAlgorithm l.signature_algorithm l.tbs_cert_list.signature
ListKeeps of.Version l = HasListVersion l.tbs_cert_list
ListKeeps of.IssuerPresent l = l.tbs_cert_list.issuer.levels.octets.now ≢ []
ListKeeps (of.Issuer r) l = NameKeeps r l.tbs_cert_list.issuer
ListKeeps of.TimeForms l = HasListTimes l.tbs_cert_list
ListKeeps of.NextUpdate l = IsSome l.tbs_cert_list.next_update.0
ListKeeps of.RevokedPresent l = HasRevokedIfPresent l.tbs_cert_list
ListKeeps of.ExtensionPresent l = HasListExtensionIfPresent l.tbs_cert_list
ListKeeps of.Instances l = HasSingleExtensions l.tbs_cert_list
ListKeeps of.KeyIdentifier l = HasInList test.KeyIdentifier l.tbs_cert_list
ListKeeps of.Number l = HasInList test.Number l.tbs_cert_list
ListKeeps of.NumberNotCritical l = HasInList test.CriticalNumber l.tbs_cert_list → ⊥
ListKeeps of.DeltaCritical l = HasInList test.PlainDelta l.tbs_cert_list → ⊥
ListKeeps of.PointCritical l = HasInList test.PlainPoint l.tbs_cert_list → ⊥
ListKeeps of.FreshestNotCritical l = HasInList test.CriticalFreshest l.tbs_cert_list → ⊥
ListKeeps of.EntryTimes l = EntriesKeep entry.Times l.tbs_cert_list
ListKeeps of.EntryVersion l = HasEntryVersion l.tbs_cert_list
ListKeeps of.NumberLength l = HasInList test.LongNumber l.tbs_cert_list → ⊥
ListKeeps of.PointKinds l = HasInList test.MixedPoint l.tbs_cert_list → ⊥
ListKeeps of.PointNotEmpty l = HasInList test.EmptyPoint l.tbs_cert_list → ⊥
ListKeeps of.FreshestOfComplete l = HasFreshestOfComplete l.tbs_cert_list
ListKeeps of.AccessNotCritical l = HasInList test.CriticalAccess l.tbs_cert_list → ⊥
ListKeeps of.ReasonNotCritical l = EntriesKeep (entry.NotCritical Reason) l.tbs_cert_list
ListKeeps of.RemovedInChanges l = HasRemovedInChanges l.tbs_cert_list
ListKeeps of.DateNotCritical l = EntriesKeep (entry.NotCritical InvalidityDate) l.tbs_cert_list
ListKeeps of.IssuerCritical l = EntriesKeep entry.IssuerCritical l.tbs_cert_list
ListKeeps of.IssuerOfIndirect l = HasIssuerOfIndirect l.tbs_cert_list
