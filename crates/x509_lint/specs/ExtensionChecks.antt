-- Checks of extensions (RFC 5280, 4.2), by their identifiers: whether an extension may or must be
-- critical, and whether its value may be an empty SEQUENCE or no bits.
use Rattle.std.specs.Prelude.{◌≡◌, ◌≢◌, ◌⊎◌, ◌≤◌, ℕ, List, [], count_by}
use Rattle.std.specs.Str.{bytes_eq}
use Rattle.der.specs.Prelude.{Sequence, element_octets}
use Rattle.x509.specs.ExtensionIdentifiers.{id_ce, id_pe}
use Rattle.x509.specs.Criticality.{IsCritical}
use Rattle.x509_lint.specs.Values.{HasAuthority, HasUsage}
use Rattle.x509.specs.declared.asn1.extension.Extension.{Extension}

-- nameConstraints (4.2.1.10), policyConstraints (4.2.1.11) and inhibitAnyPolicy (4.2.1.14) must be
-- critical
abbrev pub MustBeCritical : List ℕ → Type 0
MustBeCritical id = (id ≡ id_ce 30) ⊎ (id ≡ id_ce 36) ⊎ (id ≡ id_ce 54)

-- authorityInfoAccess (4.2.2.1) and subjectInfoAccess (4.2.2.2)
abbrev pub IsAccess : List ℕ → Type 0
IsAccess id = (id ≡ id_pe 1) ⊎ (id ≡ id_pe 11)

-- authorityKeyIdentifier (4.2.1.1), subjectKeyIdentifier (4.2.1.2), subjectDirectoryAttributes
-- (4.2.1.8), freshestCRL (4.2.1.15), authorityInfoAccess and subjectInfoAccess must not be critical
abbrev pub MustNotBeCritical : List ℕ → Type 0
MustNotBeCritical id =
    (id ≡ id_ce 35) ⊎ (id ≡ id_ce 14) ⊎ (id ≡ id_ce 9) ⊎ (id ≡ id_ce 46) ⊎ IsAccess id

-- subjectAltName (4.2.1.6), issuerAltName (4.2.1.7), subjectDirectoryAttributes (4.2.1.8) and
-- nameConstraints (4.2.1.10)
abbrev pub IsListOfNames : List ℕ → Type 0
IsListOfNames id = (id ≡ id_ce 17) ⊎ (id ≡ id_ce 18) ⊎ (id ≡ id_ce 9) ⊎ (id ≡ id_ce 30)

-- certificatePolicies (4.2.1.4), policyMappings (4.2.1.5), policyConstraints (4.2.1.11) and
-- extKeyUsage (4.2.1.12)
abbrev pub IsListOfPolicies : List ℕ → Type 0
IsListOfPolicies id = (id ≡ id_ce 32) ⊎ (id ≡ id_ce 33) ⊎ (id ≡ id_ce 36) ⊎ (id ≡ id_ce 37)

-- cRLDistributionPoints (4.2.1.13) and freshestCRL (4.2.1.15)
abbrev pub IsListOfPlaces : List ℕ → Type 0
IsListOfPlaces id = (id ≡ id_ce 31) ⊎ (id ≡ id_ce 46)

-- the values of these extensions are SEQUENCEs that must have an element
abbrev pub MustNotBeEmpty : List ℕ → Type 0
MustNotBeEmpty id = IsListOfNames id ⊎ IsListOfPolicies id ⊎ IsListOfPlaces id ⊎ IsAccess id

abbrev pub IsCriticalIfRequired : Extension → Type 0
IsCriticalIfRequired v = MustBeCritical v.extn_id.octets.now → IsCritical v

abbrev pub IsNotCriticalIfForbidden : Extension → Type 0
IsNotCriticalIfForbidden v = MustNotBeCritical v.extn_id.octets.now → IsCritical v → ⊥

-- the basicConstraints of an authority is critical (4.2.1.9)
abbrev pub IsCriticalIfAuthority : Extension → Type 0
IsCriticalIfAuthority v =
    v.extn_id.octets.now ≡ id_ce 19 → HasAuthority v.extn_value.octets.now → IsCritical v

-- the value of an extension that is a SEQUENCE of at least one element is not an empty SEQUENCE
abbrev pub IsNotEmpty : Extension → Type 0
IsNotEmpty v =
    MustNotBeEmpty v.extn_id.octets.now → v.extn_value.octets.now ≢ element_octets Sequence []

-- a keyUsage has at least one bit that is one (4.2.1.3)
abbrev pub HasUsageIfKeyUsage : Extension → Type 0
HasUsageIfKeyUsage v = v.extn_id.octets.now ≡ id_ce 15 → HasUsage v.extn_value.octets.now

-- the number of extensions with an identifier
abbrev pub instances : List ℕ → List Extension → ℕ
instances id items = count_by (λ v. bytes_eq v.extn_id.octets.now id) items

-- there is at most one extension with the identifier of this one (4.2)
abbrev pub IsOnlyInstance : List Extension → Extension → Type 0
IsOnlyInstance items v = instances v.extn_id.octets.now items ≤ 1
