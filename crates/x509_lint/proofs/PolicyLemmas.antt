-- Lemmas on the encodings of policies.
use Rattle.std.proofs.Common.{◌≡◌, ◌≤◌, List, ◌++◌, subst}
use Rattle.der.specs.Prelude.{ObjectIdentifier, Sequence, element_octets}
use Rattle.der.proofs.DelimitedLemmas.{element_front}
use Rattle.x509.proofs.EncodingLemmas.{element_same, elements_apart}
use Rattle.x509.proofs.ItemLemmas.{AreApartItems}
use Rattle.x509_lint.specs.PolicyChecks.{IsOnlyPolicy, IsPolicy, encoding_if_present, policy_encoding, policy_instances}
use Rattle.x509.specs.declared.asn1.policy_information.PolicyInformation.{PolicyInformation}

-- policies with the same encoding have the same identifier
pub policy_same : (v w : PolicyInformation) → policy_encoding v ≡ policy_encoding w → v.policy_identifier.octets.now ≡ w.policy_identifier.octets.now
policy_same v w e =
    (element_front ObjectIdentifier ObjectIdentifier v.policy_identifier.octets.now w.policy_identifier.octets.now _ _ (element_same Sequence Sequence _ _ e).1).1

pub policies_apart : AreApartItems IsPolicy policy_encoding
policies_apart =
    elements_apart IsPolicy Sequence (λ v. element_octets ObjectIdentifier v.policy_identifier.octets.now
    ++ encoding_if_present v.policy_qualifiers.0 (λ q. element_octets Sequence q.octets.now))

pub policy_keep : (items : List PolicyInformation) (v w : PolicyInformation) → IsPolicy v → IsPolicy w → policy_encoding v ≡ policy_encoding w → IsOnlyPolicy items v → IsOnlyPolicy items w
policy_keep items v w is are e h = subst (λ i. policy_instances i items ≤ 1) (policy_same v w e) h
