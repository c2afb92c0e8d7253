-- Lemmas: items with the same encoding keep the same rules.
use Rattle.std.proofs.Common.{◌≡◌, ◌≤◌, ℕ, List, sym, subst, ◌∙◌}
use Rattle.der_asn1.specs.AnyRef.{any_contents}
use Rattle.der_asn1.specs.Forms.{is_false}
use Rattle.x509.proofs.EncodingLemmas.{attribute_same, extension_same, level_same}
use Rattle.x509_lint.specs.AttributeChecks.{AllowsLength, AllowsType, AreCharactersOf, character_count}
use Rattle.x509_lint.specs.CertificateChecks.{ExtensionKeeps}
use Rattle.x509.specs.CertificateLists.{AreAttributes, IsAttribute, IsExtension, IsLevel, attribute_encoding, extension_encoding, level_encoding}
use Rattle.x509_lint.specs.ExtensionChecks.{MustBeCritical, MustNotBeCritical, MustNotBeEmpty, instances}
use Rattle.x509.specs.Firsts.{FailsFirstAt}
use Rattle.x509_lint.specs.ExtensionTests.{IsFound, IsWanted}
use Rattle.x509_lint.specs.NameChecks.{AttributeKeeps, IsFirstAttribute, LevelKeeps, LevelOctetsKeep}
use Rattle.x509_lint.specs.ValueRules.{ValueKeeps}
use Rattle.x509_lint.specs.Values.{HasAuthority, HasUsage}
use Rattle.x509_lint.specs.declared.extension_test.ExtensionTest.{ExtensionTest}
use Rattle.x509.specs.declared.asn1.attribute_type_and_value.AttributeTypeAndValue.{AttributeTypeAndValue}
use Rattle.x509.specs.declared.asn1.extension.Extension.{Extension}
use Rattle.x509.specs.declared.asn1.relative_distinguished_name.RelativeDistinguishedName.{RelativeDistinguishedName}
use Rattle.x509_lint.specs.declared.attribute_rule.AttributeRule.{AttributeRule}
use Rattle.x509_lint.specs.declared.attribute_rule.AttributeRule.TheVariants.{Length, Characters, StringType}
use Rattle.x509_lint.specs.declared.extension_rule.ExtensionRule.{ExtensionRule}
use Rattle.x509_lint.specs.declared.extension_rule.ExtensionRule.TheVariants.{Instances, Critical, NotCritical, NotEmpty, Usage, AuthorityCritical, Value}
use Rattle.x509_lint.specs.declared.name_rule.NameRule.{NameRule}

pub attribute_keep : (rule : AttributeRule) (v w : AttributeTypeAndValue) → IsAttribute v → IsAttribute w → attribute_encoding v ≡ attribute_encoding w → AttributeKeeps rule v → AttributeKeeps rule w
attribute_keep Length v w is are e h =
    let same = attribute_same v w e in
    subst (λ i. AllowsLength i (character_count w.value.tag (any_contents w.value))) same.0
    (subst (λ t. AllowsLength v.oid.octets.now (character_count t (any_contents w.value))) same.1.0
    (subst (λ c. AllowsLength v.oid.octets.now (character_count v.value.tag c)) same.1.1 h))
attribute_keep Characters v w is are e h =
    let same = attribute_same v w e in
    subst (λ t. AreCharactersOf t (any_contents w.value)) same.1.0 (subst (λ c. AreCharactersOf v.value.tag c) same.1.1 h)
attribute_keep StringType v w is are e h =
    let same = attribute_same v w e in
    subst (λ i. AllowsType i w.value.tag) same.0 (subst (AllowsType v.oid.octets.now) same.1.0 h)

pub level_keep : (rule : NameRule) (v w : RelativeDistinguishedName) → IsLevel v → IsLevel w → level_encoding v ≡ level_encoding w → LevelKeeps rule v → LevelKeeps rule w
level_keep rule v w is are e h = subst (LevelOctetsKeep rule) (level_same v w e) h

pub extension_keep : (rule : ExtensionRule) (items : List Extension) (v w : Extension) → IsExtension v → IsExtension w → extension_encoding v ≡ extension_encoding w
    → ExtensionKeeps rule items v → ExtensionKeeps rule items w
extension_keep Instances items v w is are e h = subst (λ i. instances i items ≤ 1) (extension_same v w e).0 h
extension_keep Critical items v w is are e h =
    let same = extension_same v w e in
    λ must. sym same.1.0 ∙ h (subst MustBeCritical (sym same.0) must)
extension_keep NotCritical items v w is are e h =
    let same = extension_same v w e in
    λ must critical. h (subst MustNotBeCritical (sym same.0) must) (same.1.0 ∙ critical)
extension_keep NotEmpty items v w is are e h =
    let same = extension_same v w e in
    λ must empty. h (subst MustNotBeEmpty (sym same.0) must) (same.1.1 ∙ empty)
extension_keep Usage items v w is are e h =
    let same = extension_same v w e in
    λ id. subst HasUsage same.1.1 (h (same.0 ∙ id))
extension_keep AuthorityCritical items v w is are e h =
    let same = extension_same v w e in
    λ id authority. sym same.1.0 ∙ h (same.0 ∙ id) (subst HasAuthority (sym same.1.1) authority)
extension_keep (Value rule) items v w is are e h =
    let same = extension_same v w e in
    subst (λ i. ValueKeeps rule i w.extn_value.octets.now) same.0 (subst (ValueKeeps rule v.extn_id.octets.now) same.1.1 h)

-- levels with the same encoding have the same first attribute that breaks a rule
pub first_attribute_keep : (rule : AttributeRule) (place : ℕ) (v w : RelativeDistinguishedName) → IsLevel v → IsLevel w → level_encoding v ≡ level_encoding w
    → IsFirstAttribute rule place v → IsFirstAttribute rule place w
first_attribute_keep rule place v w is are e h =
    subst (λ octets. (l : AreAttributes octets) → FailsFirstAt (AttributeKeeps rule) l.items place) (level_same v w e) h

-- extensions with the same encoding are both looked for, or neither is
pub found_keep : (test : ExtensionTest) (v w : Extension) → IsExtension v → IsExtension w → extension_encoding v ≡ extension_encoding w → IsFound test v → IsFound test w
found_keep test v w is are e h =
    let same = extension_same v w e in
    subst (λ i. IsWanted test i (is_false w.critical.0.octets.now) w.extn_value.octets.now) same.0
    (subst (λ b. IsWanted test v.extn_id.octets.now b w.extn_value.octets.now) same.1.0
    (subst (λ o. IsWanted test v.extn_id.octets.now (is_false v.critical.0.octets.now) o) same.1.1 h))

pub other_keep : (test : ExtensionTest) (v w : Extension) → IsExtension v → IsExtension w → extension_encoding v ≡ extension_encoding w → (IsFound test v → ⊥) → IsFound test w → ⊥
other_keep test v w is are e other h = other (found_keep test w v are is (sym e) h)
