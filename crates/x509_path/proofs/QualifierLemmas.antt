-- Lemmas on the qualifiers of policies.
use Rattle.std.proofs.Common.{◌≡◌, ◌^◌, ◌<◌, ◌↔◌, ℕ, Bool, List, [], ◌++◌, append-nil, length, Option, Some, None, IsTrue, refl, sym, subst, ◌∙◌}
use Rattle.der.specs.Prelude.{ObjectIdentifier, Sequence, element_octets}
use Rattle.der.proofs.DelimitedLemmas.{element_front}
use Rattle.der_asn1.specs.Optional.{option_encoding}
use Rattle.x509.proofs.EncodingLemmas.{element_same, elements_apart}
use Rattle.x509.proofs.ItemLemmas.{AreApartItems}
use Rattle.x509.specs.contracts.asn1.policy_information.PolicyInformationItem.TheImpl as policy
use Rattle.x509.specs.declared.asn1.policy_information.PolicyInformation.{PolicyInformation}
use Rattle.x509_path.specs.Qualifiers.{AreUnqualified, HasNoQualifiers, IsUnqualified}

append_nil : (l : List ℕ) → l ++ [] ≡ l
append_nil = append-nil

some_octets : (n x : List ℕ) → element_octets Sequence n ++ x ≡ [] → ⊥
some_octets = (elements_apart (λ (_ : List ℕ). Unit {0}) Sequence (λ c. c)).some

-- what is encoded by no octets is absent
absent : {A : Type 0} (contents : A → List ℕ) (o : Option A) → [] ≡ option_encoding (λ q. element_octets Sequence (contents q)) o → o ≡ None
absent contents None e = refl
absent contents (Some q) e = absurd (some_octets (contents q) [] (append_nil (element_octets Sequence (contents q)) ∙ sym e))

pub policies_apart : AreApartItems policy.ghosts.item.valid policy.ghosts.item.octets
policies_apart =
    elements_apart policy.ghosts.item.valid Sequence (λ v. element_octets ObjectIdentifier v.policy_identifier.octets.now
    ++ option_encoding (λ q. element_octets Sequence q.octets.now) v.policy_qualifiers.0)

-- policies with the same encoding have the same identifier, and the same qualifiers
pub policy_same : (v w : PolicyInformation) → policy.ghosts.item.octets v ≡ policy.ghosts.item.octets w
    → (v.policy_identifier.octets.now ≡ w.policy_identifier.octets.now)
    × (option_encoding (λ q. element_octets Sequence q.octets.now) v.policy_qualifiers.0 ≡ option_encoding (λ q. element_octets Sequence q.octets.now) w.policy_qualifiers.0)
policy_same v w e =
    let front = element_front ObjectIdentifier ObjectIdentifier v.policy_identifier.octets.now w.policy_identifier.octets.now _ _ (element_same Sequence Sequence _ _ e).1 in
    (front.1, front.2)

pub policy_read : (v w : PolicyInformation) → policy.ghosts.item.octets v ≡ policy.ghosts.item.octets w → v.policy_identifier.octets.now ≡ w.policy_identifier.octets.now
policy_read v w e = (policy_same v w e).0

pub unqualified_keep : (v w : PolicyInformation) → policy.ghosts.item.valid v → policy.ghosts.item.valid w → policy.ghosts.item.octets v ≡ policy.ghosts.item.octets w → IsUnqualified v → IsUnqualified w
unqualified_keep v w is are e h =
    absent (λ q. q.octets.now) w.policy_qualifiers.0
    (subst (λ o. option_encoding (λ q. element_octets Sequence q.octets.now) o ≡ option_encoding (λ q. element_octets Sequence q.octets.now) w.policy_qualifiers.0) h (policy_same v w e).1)

-- a value whose contents were read
pub unqualified_exactly : (v c : List ℕ) (said : Bool) → length v < 2 ^ 32 → v ≡ element_octets Sequence c → (IsTrue said ↔ AreUnqualified c) → IsTrue said ↔ HasNoQualifiers v
unqualified_exactly v c said short e are = (
  λ t. (short, (c, e, are.0 t)),
  λ h. are.1 (subst AreUnqualified ((element_same Sequence Sequence h.1.0 c (sym h.1.1 ∙ e)).1) h.1.2),
)
