-- Qualifiers of policies (RFC 5280, 4.2.1.4): `HasNoQualifiers`.
use Rattle.std.specs.Prelude.{◌≡◌, ◌^◌, ◌<◌, ℕ, List, All, None, length}
use Rattle.der.specs.Prelude.{Sequence}
use Rattle.der_asn1.specs.SequenceOf.{IsListOf}
use Rattle.x509.specs.contracts.asn1.policy_information.PolicyInformationItem.TheImpl as policy
use Rattle.x509.specs.declared.asn1.policy_information.PolicyInformation.{PolicyInformation}
use Rattle.x509_path.specs.ExtensionValue.{IsElementOf}

-- the policies of a list with these contents
abbrev pub ArePolicies : List ℕ → Type 0
ArePolicies octets = IsListOf policy.ghosts.item.valid policy.ghosts.item.octets octets

-- a policy has no qualifiers
abbrev pub IsUnqualified : PolicyInformation → Type 0
IsUnqualified p = p.policy_qualifiers.0 ≡ None

-- octets are policies, one after the other, and none has qualifiers
abbrev pub AreUnqualified : List ℕ → Type 0
AreUnqualified octets = ∥ ((l : ArePolicies octets) × All IsUnqualified l.items) ∥₁

-- fewer than 2^32 octets are the value of a certificatePolicies, and no policy of it has qualifiers
abbrev pub HasNoQualifiers : List ℕ → Type 0
HasNoQualifiers v =
    (length v < 2 ^ 32) × ((c : List ℕ) × IsElementOf v Sequence c × AreUnqualified c)
