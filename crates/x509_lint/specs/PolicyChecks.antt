-- Certificate policies (RFC 5280, 4.2.1.4): that no policy occurs twice (`AreDistinctPolicies`).
use Rattle.std.specs.Prelude.{◌≡◌, ◌^◌, ◌<◌, ◌≤◌, ℕ, true, List, ◌++◌, length, All, Option, count_by}
use Rattle.std.specs.Str.{bytes_eq}
use Rattle.der.specs.Prelude.{ObjectIdentifier, Sequence, element_octets}
use Rattle.der_asn1.specs.AnyRef.{IsAny, any_contents}
use Rattle.der_asn1.specs.Forms.{oid_form}
use Rattle.der_asn1.specs.Optional.{IsOptional, option_encoding}
use Rattle.der_asn1.specs.SequenceOf.{IsListOf}
use Rattle.x509.specs.declared.asn1.policy_information.PolicyInformation.{PolicyInformation}
use Rattle.x509.specs.declared.asn1.policy_qualifier_info.PolicyQualifierInfo.{PolicyQualifierInfo}

-- a qualifier of a policy: an OBJECT IDENTIFIER, and an element of any tag
abbrev pub IsQualifier : PolicyQualifierInfo → Type 0
IsQualifier v = (oid_form v.policy_qualifier_id.octets.now ≡ true) × IsAny v.qualifier

abbrev pub qualifier_encoding : PolicyQualifierInfo → List ℕ
qualifier_encoding v =
    element_octets Sequence (element_octets ObjectIdentifier v.policy_qualifier_id.octets.now
    ++ element_octets v.qualifier.tag (any_contents v.qualifier))

-- contents of a list of qualifiers
abbrev pub AreQualifiers : List ℕ → Type 0
AreQualifiers octets = ∥ IsListOf IsQualifier qualifier_encoding octets ∥₁ × (length octets < 2 ^ 32)

-- a value that may be absent, and its encoding
abbrev pub IfPresent : {A : Type 0} → Option A → (A → Type 0) → Type 0
IfPresent value P = IsOptional P value

abbrev pub encoding_if_present : {A : Type 0} → Option A → (A → List ℕ) → List ℕ
encoding_if_present value encoding = option_encoding encoding value

-- a policy: an OBJECT IDENTIFIER, and a SEQUENCE OF qualifiers that may be absent
abbrev pub IsPolicy : PolicyInformation → Type 0
IsPolicy v =
    (oid_form v.policy_identifier.octets.now ≡ true)
    × IfPresent v.policy_qualifiers.0 (λ q. AreQualifiers q.octets.now)

abbrev pub policy_encoding : PolicyInformation → List ℕ
policy_encoding v =
    element_octets Sequence (element_octets ObjectIdentifier v.policy_identifier.octets.now
    ++ encoding_if_present v.policy_qualifiers.0 (λ q. element_octets Sequence q.octets.now))

-- the policies of a list with these contents
abbrev pub ArePolicies : List ℕ → Type 0
ArePolicies octets = IsListOf IsPolicy policy_encoding octets

-- the number of policies with an identifier
abbrev pub policy_instances : List ℕ → List PolicyInformation → ℕ
policy_instances id policies = count_by (λ v. bytes_eq v.policy_identifier.octets.now id) policies

-- there is at most one policy with the identifier of this one
abbrev pub IsOnlyPolicy : List PolicyInformation → PolicyInformation → Type 0
IsOnlyPolicy policies v = policy_instances v.policy_identifier.octets.now policies ≤ 1

-- no policy of a list occurs twice
abbrev pub AreDistinctPolicies : List ℕ → Type 0
AreDistinctPolicies octets = (l : ArePolicies octets) → All (IsOnlyPolicy l.items) l.items
