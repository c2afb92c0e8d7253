-- Rules for the values of extensions (RFC 5280, 4.2.1 and 4.2.2): `ValueKeeps`.
use Rattle.std.specs.Prelude.{◌≡◌, ◌↔◌, ◌^◌, ◌<◌, ℕ, false, true, List, length}
use Rattle.der.specs.Prelude.{Integer, Sequence}
use Rattle.der_asn1.specs.ContextSpecific.{context_tag}
use Rattle.x509.specs.ExtensionIdentifiers.{id_ce}
use Rattle.x509_lint.specs.Elements.{EachOfSequence, IsElement}
use Rattle.x509_lint.specs.ExtensionChecks.{IsAccess}
use Rattle.x509_lint.specs.ExtensionKinds.{IsAltNames, IsPoints}
use Rattle.x509_lint.specs.FieldRules.{BasesKeep, PointKeeps, PolicyKeeps}
use Rattle.x509_lint.specs.Groups.{GroupKeeps}
use Rattle.x509_lint.specs.Parts.{PartKeeps}
use Rattle.x509_lint.specs.PolicyChecks.{AreDistinctPolicies}
use Rattle.x509_lint.specs.ValueTypes.{HasValueOfType}
use Rattle.x509_lint.specs.Values.{HasAuthority, HasPart, IsNotNegative}
use Rattle.x509_lint.specs.declared.group_test.GroupTest.TheVariants as group
use Rattle.x509_lint.specs.declared.part_test.PartTest.TheVariants as part
use Rattle.x509_lint.specs.declared.value_rule.ValueRule.{ValueRule}
use Rattle.x509_lint.specs.declared.value_rule.ValueRule.TheVariants as value

-- no policy occurs twice, if the value is a SEQUENCE of policies (4.2.1.4)
abbrev pub HasDistinctPolicies : List ℕ → Type 0
HasDistinctPolicies octets =
    (c : List ℕ) → IsElement octets Sequence c → length c < 2 ^ 32 → AreDistinctPolicies c

-- both the name of an issuer, with the tag [1], and its serial number, with the tag [2], or neither
abbrev pub HasIssuerAndSerial : List ℕ → Type 0
HasIssuerAndSerial octets =
    HasPart (context_tag true 1) octets ↔ HasPart (context_tag false 2) octets

-- the value of an extension with this identifier keeps a rule
abbrev pub ValueKeeps : ValueRule → List ℕ → List ℕ → Type 0
ValueKeeps value.Contents id v = HasValueOfType id v
ValueKeeps value.PathLengthOfAuthority id v = id ≡ id_ce 19 → HasPart Integer v → HasAuthority v
ValueKeeps value.PathLength id v = id ≡ id_ce 19 → EachOfSequence (PartKeeps part.NotNegative) v
ValueKeeps value.PolicyNumbers id v = id ≡ id_ce 36 → EachOfSequence (PartKeeps part.NotNegative) v
ValueKeeps value.AnyPolicyNumber id v = id ≡ id_ce 54 → IsNotNegative v
ValueKeeps value.DistinctPolicies id v = id ≡ id_ce 32 → HasDistinctPolicies v
ValueKeeps value.Mappings id v = id ≡ id_ce 33 → EachOfSequence (GroupKeeps group.Mapping) v
ValueKeeps value.Points id v = IsPoints id → EachOfSequence (GroupKeeps group.Point) v
ValueKeeps value.Subtrees id v = id ≡ id_ce 30 → EachOfSequence (GroupKeeps group.Subtrees) v
ValueKeeps value.SubtreesPresent id v = id ≡ id_ce 30 → EachOfSequence (PartKeeps part.NotEmpty) v
ValueKeeps value.Locations id v = IsAccess id → EachOfSequence (GroupKeeps group.Location) v
ValueKeeps value.IssuerAndSerial id v = id ≡ id_ce 35 → HasIssuerAndSerial v
ValueKeeps (value.Policies r) id v = id ≡ id_ce 32 → PolicyKeeps r v
ValueKeeps (value.PointFields r) id v = IsPoints id → PointKeeps r v
ValueKeeps (value.Bases r) id v = id ≡ id_ce 30 → BasesKeep r v
ValueKeeps (value.Names r) id v = IsAltNames id → EachOfSequence (PartKeeps (part.Form r)) v
