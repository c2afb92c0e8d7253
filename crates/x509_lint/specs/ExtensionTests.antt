-- Extensions that are looked for (`IsFound`), and pairs of them (`given_of`, `wanted_of`).
use Rattle.std.specs.Prelude.{◌≡◌, ℕ, Bool, false, true, List, []}
use Rattle.der.specs.Prelude.{Integer, Sequence, element_octets}
use Rattle.der_asn1.specs.ContextSpecific.{context_tag}
use Rattle.der_asn1.specs.Forms.{is_false}
use Rattle.x509.specs.ExtensionIdentifiers.{id_ce, id_pe}
use Rattle.x509.specs.CertificateLists.{AreExtensions}
use Rattle.x509.specs.Firsts.{IsFirstAt}
use Rattle.x509.specs.declared.asn1.extension.Extension.{Extension}
use Rattle.x509.specs.declared.asn1.extensions.Extensions.{Extensions}
use Rattle.x509_lint.specs.Values.{HasAuthority, HasCertSign, HasMixedKinds, HasPart, IsLongNumber}
use Rattle.x509_lint.specs.declared.extension_test.ExtensionTest.{ExtensionTest}
use Rattle.x509_lint.specs.declared.extension_test.ExtensionTest.TheVariants as test
use Rattle.x509_lint.specs.declared.pair_rule.PairRule.{PairRule}
use Rattle.x509_lint.specs.declared.pair_rule.PairRule.TheVariants as pair

-- an extension with this identifier and this value is one that is looked for; `plain` says that it
-- is not critical
abbrev pub IsWanted : ExtensionTest → List ℕ → Bool → List ℕ → Type 0
IsWanted test.CriticalAltName id plain value = (id ≡ id_ce 17) × (plain ≡ false)
IsWanted test.KeyUsage id plain value = id ≡ id_ce 15
IsWanted test.CertSign id plain value = (id ≡ id_ce 15) × HasCertSign value
IsWanted test.SubjectKeyIdentifier id plain value = id ≡ id_ce 14
IsWanted test.KeyIdentifier id plain value = (id ≡ id_ce 35) × HasPart (context_tag false 0) value
IsWanted test.NameConstraints id plain value = id ≡ id_ce 30
IsWanted test.Authority id plain value = (id ≡ id_ce 19) × HasAuthority value
IsWanted test.PathLength id plain value = (id ≡ id_ce 19) × HasPart Integer value
IsWanted test.Number id plain value = id ≡ id_ce 20
IsWanted test.CriticalNumber id plain value = (id ≡ id_ce 20) × (plain ≡ false)
IsWanted test.PlainDelta id plain value = (id ≡ id_ce 27) × (plain ≡ true)
IsWanted test.PlainPoint id plain value = (id ≡ id_ce 28) × (plain ≡ true)
IsWanted test.CriticalFreshest id plain value = (id ≡ id_ce 46) × (plain ≡ false)
IsWanted test.Freshest id plain value = id ≡ id_ce 46
IsWanted test.Delta id plain value = id ≡ id_ce 27
IsWanted test.CriticalAccess id plain value = (id ≡ id_pe 1) × (plain ≡ false)
IsWanted test.LongNumber id plain value = (id ≡ id_ce 20) × IsLongNumber value
IsWanted test.MixedPoint id plain value = (id ≡ id_ce 28) × HasMixedKinds value
IsWanted test.EmptyPoint id plain value = (id ≡ id_ce 28) × (value ≡ element_octets Sequence [])
IsWanted test.IndirectPoint id plain value = (id ≡ id_ce 28) × HasPart (context_tag false 4) value

abbrev pub IsFound : ExtensionTest → Extension → Type 0
IsFound t v = IsWanted t v.extn_id.octets.now (is_false v.critical.0.octets.now) v.extn_value.octets.now

-- the first extension that is looked for is at this place
abbrev pub IsFirstFound : ExtensionTest → List Extension → ℕ → Type 0
IsFirstFound t items place = IsFirstAt (λ v. IsFound t v → ⊥) (IsFound t) items place

-- one of these extensions is looked for
abbrev pub HasFound : ExtensionTest → Extensions → Type 0
HasFound t v = ∥ ((l : AreExtensions v) × (place : ℕ) × IsFirstFound t l.items place) ∥₁

-- the extension with which a certificate must have another, and the other
abbrev pub given_of : PairRule → ExtensionTest
given_of pair.CertSignOfAuthority = test.CertSign
given_of pair.UsageOfAuthority = test.Authority
given_of pair.KeyIdentifierOfAuthority = test.Authority
given_of pair.NameConstraintsOfAuthority = test.NameConstraints
given_of pair.PathLengthOfCertSign = test.PathLength

abbrev pub wanted_of : PairRule → ExtensionTest
wanted_of pair.CertSignOfAuthority = test.Authority
wanted_of pair.UsageOfAuthority = test.KeyUsage
wanted_of pair.KeyIdentifierOfAuthority = test.SubjectKeyIdentifier
wanted_of pair.NameConstraintsOfAuthority = test.Authority
wanted_of pair.PathLengthOfCertSign = test.CertSign
