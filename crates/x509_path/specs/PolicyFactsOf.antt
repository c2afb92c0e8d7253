-- What a certificate says of policies, as `path_rules` asks for it (RFC 5280, 4.2.1.4, 4.2.1.5,
-- 4.2.1.11, 4.2.1.14): `ArePolicyFacts`. A certificate has no such facts if one of the four
-- extensions occurs twice, is malformed under DER, or has a negative number.
use Rattle.std.specs.Prelude.{◌≡◌, ℕ, false, true, List, [], Option, Some, None, IfSome, IsTrue, ◌↔◌, map}
use Rattle.std.specs.Borrow.{Bor}
use Rattle.std.specs.Option.{option_map}
use Rattle.der.specs.Prelude.{Integer, Sequence}
use Rattle.der_asn1.specs.Forms.{integer_form}
use Rattle.der_asn1.specs.Integer.{is_negative}
use Rattle.der_asn1.specs.SequenceOf.{IsListOf}
use Rattle.path_rules.specs.declared.mapping.Mapping.{Mapping}
use Rattle.path_rules.specs.declared.policy_facts.PolicyFacts.{PolicyFacts}
use Rattle.x509.specs.ExtensionIdentifiers.{id_ce}
use Rattle.x509.specs.contracts.asn1.policy_constraints.PolicyConstraintsItem.TheImpl as skips
use Rattle.x509.specs.contracts.asn1.policy_information.PolicyInformationItem.TheImpl as policy
use Rattle.x509.specs.contracts.asn1.policy_mapping.PolicyMappingItem.TheImpl as mapping
use Rattle.x509.specs.declared.asn1.policy_constraints.PolicyConstraints.{PolicyConstraints}
use Rattle.x509.specs.declared.asn1.policy_information.PolicyInformation.{PolicyInformation}
use Rattle.x509.specs.declared.asn1.policy_mapping.PolicyMapping.{PolicyMapping}
use Rattle.x509.specs.declared.asn1.tbs_certificate.TbsCertificate.{TbsCertificate}
use Rattle.x509_path.specs.CertificateFacts.{IsSelfIssued}
use Rattle.x509_path.specs.ExtensionValue.{ExtensionHas, IsElementOf}
use Rattle.x509_path.specs.PathLimits.{limit_number}

-- without a value there are no items; a value is a SEQUENCE OF these items, in this order
abbrev pub SaysItems : {A X Y : Type 0} → (A → Type 0) → (A → List ℕ) → (A → Y) → (X → Y) → List X
    → Option (List ℕ) → Type 0
SaysItems valid encoding item says xs None = xs ≡ []
SaysItems valid encoding item says xs (Some v) =
    (c : List ℕ) × IsElementOf v Sequence c
    × ((l : IsListOf valid encoding c) × (map says xs ≡ map item l.items))

-- the policy of a PolicyInformation (4.2.1.4)
abbrev pub policy_of : PolicyInformation → List ℕ
policy_of p = p.policy_identifier.octets.now

abbrev pub policy_octets : Bor (List ℕ) → List ℕ
policy_octets p = p.now

-- policies are those of the certificatePolicies, in order; without one there are none
abbrev pub HasPolicies : List (Bor (List ℕ)) → TbsCertificate → Type 0
HasPolicies policies c =
    ExtensionHas (id_ce 32)
    (SaysItems policy.ghosts.item.valid policy.ghosts.item.octets policy_of policy_octets policies) c

-- a policy of the issuer, and the policy of the subject that counts as equal (4.2.1.5)
abbrev pub Pair : Type 0
Pair = List ℕ × List ℕ

abbrev pub pair : List ℕ → List ℕ → Pair
pair p q = (p, q)

abbrev pub pair_of : PolicyMapping → Pair
pair_of m = pair m.issuer_domain_policy.octets.now m.subject_domain_policy.octets.now

abbrev pub mapping_octets : Mapping → Pair
mapping_octets m = pair m.issuer.now m.subject.now

-- the mappings of a list with these contents
abbrev pub ArePairs : List ℕ → Type 0
ArePairs octets = IsListOf mapping.ghosts.item.valid mapping.ghosts.item.octets octets

-- mappings are those of the policyMappings, in order; without one there are none
abbrev pub HasMappings : List Mapping → TbsCertificate → Type 0
HasMappings mappings c =
    ExtensionHas (id_ce 33)
    (SaysItems mapping.ghosts.item.valid mapping.ghosts.item.octets pair_of mapping_octets mappings)
    c

-- the contents octets of requireExplicitPolicy and of inhibitPolicyMapping, if they are there
-- (4.2.1.11)
abbrev pub explicit_octets : PolicyConstraints → Option (List ℕ)
explicit_octets p = option_map (λ n. n.0.octets.now) p.require_explicit_policy.0

abbrev pub inhibit_octets : PolicyConstraints → Option (List ℕ)
inhibit_octets p = option_map (λ n. n.0.octets.now) p.inhibit_policy_mapping.0

-- one of both is there, and none is negative
pub record AreSkips (explicit inhibit : Option (List ℕ)) : Type 0 where
  pub some : (explicit ≡ None) × (inhibit ≡ None) → ⊥
  pub first : IfSome explicit (λ n. is_negative n ≡ false)
  pub second : IfSome inhibit (λ n. is_negative n ≡ false)

-- numbers are those of the policyConstraints; without one there are none. A number above 2^64 - 1
-- is this one
abbrev pub SaysSkips : Option ℕ → Option ℕ → Option (List ℕ) → Type 0
SaysSkips explicit inhibit None = (explicit ≡ None) × (inhibit ≡ None)
SaysSkips explicit inhibit (Some v) =
    (p : PolicyConstraints) × skips.ghosts.item.valid p × (v ≡ skips.ghosts.item.octets p)
    × AreSkips (explicit_octets p) (inhibit_octets p)
    × (explicit ≡ option_map limit_number (explicit_octets p))
    × (inhibit ≡ option_map limit_number (inhibit_octets p))

abbrev pub HasSkips : Option ℕ → Option ℕ → TbsCertificate → Type 0
HasSkips explicit inhibit c = ExtensionHas (id_ce 36) (SaysSkips explicit inhibit) c

-- a number is that of the inhibitAnyPolicy, which is an INTEGER (4.2.1.14); without one there is
-- none
abbrev pub SaysAnySkip : Option ℕ → Option (List ℕ) → Type 0
SaysAnySkip number None = number ≡ None
SaysAnySkip number (Some v) =
    (c : List ℕ) × IsElementOf v Integer c × (integer_form c ≡ true) × (is_negative c ≡ false)
    × (number ≡ Some (limit_number c))

abbrev pub HasAnySkip : Option ℕ → TbsCertificate → Type 0
HasAnySkip number c = ExtensionHas (id_ce 54) (SaysAnySkip number) c

-- what a certificate says of policies
pub record ArePolicyFacts (c : TbsCertificate) (f : PolicyFacts) : Type 0 where
  pub policies : HasPolicies f.policies.now c
  pub mappings : HasMappings f.mappings.now c
  pub skips : HasSkips f.require_explicit f.inhibit_mapping c
  pub any : HasAnySkip f.inhibit_any c
  pub self_issued : IsTrue f.is_self_issued ↔ IsSelfIssued c
