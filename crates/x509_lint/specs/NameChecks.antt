-- Rules for names (RFC 5280, 4.1.2.4): `NameKeeps`.
use Rattle.std.specs.Prelude.{◌≢◌, List, [], ℕ, All, Option, Some, None}
use Rattle.x509_lint.specs.AttributeChecks.{HasLengthOfType, HasCharactersOfTag, HasTypeOfAttribute}
use Rattle.x509.specs.CertificateLists.{AreAttributes, AreLevels, level_octets}
use Rattle.x509.specs.Firsts.{FailsFirstAt, IsFirstAt}
use Rattle.x509.specs.declared.asn1.attribute_type_and_value.AttributeTypeAndValue.{AttributeTypeAndValue}
use Rattle.x509.specs.declared.asn1.name.Name.{Name}
use Rattle.x509.specs.declared.asn1.relative_distinguished_name.RelativeDistinguishedName.{RelativeDistinguishedName}
use Rattle.x509_lint.specs.declared.attribute_rule.AttributeRule.{AttributeRule}
use Rattle.x509_lint.specs.declared.attribute_rule.AttributeRule.TheVariants.{Length, Characters, StringType}
use Rattle.x509_lint.specs.declared.name_rule.NameRule.{NameRule}
use Rattle.x509_lint.specs.declared.name_rule.NameRule.TheVariants.{Levels, Attributes}

-- an attribute keeps a rule
abbrev pub AttributeKeeps : AttributeRule → AttributeTypeAndValue → Type 0
AttributeKeeps Length v = HasLengthOfType v
AttributeKeeps Characters v = HasCharactersOfTag v
AttributeKeeps StringType v = HasTypeOfAttribute v

-- a level with these contents keeps a rule: it has an attribute, since its size is 1 at least; or
-- all its attributes keep a rule
abbrev pub LevelOctetsKeep : NameRule → List ℕ → Type 0
LevelOctetsKeep Levels octets = octets ≢ []
LevelOctetsKeep (Attributes rule) octets =
    ∥ ((l : AreAttributes octets) × All (AttributeKeeps rule) l.items) ∥₁

abbrev pub LevelKeeps : NameRule → RelativeDistinguishedName → Type 0
LevelKeeps rule v = LevelOctetsKeep rule (level_octets v)

-- the first attribute of a level that breaks a rule is at this place
abbrev pub IsFirstAttribute : AttributeRule → ℕ → RelativeDistinguishedName → Type 0
IsFirstAttribute rule place v =
    (l : AreAttributes (level_octets v)) → FailsFirstAt (AttributeKeeps rule) l.items place

-- the first level with an attribute that breaks a rule, and the place of the first such attribute in
-- it; or none
abbrev pub FirstFailingAttribute : AttributeRule → List RelativeDistinguishedName → Option (ℕ × ℕ)
    → Type 0
FirstFailingAttribute rule levels None = All (LevelKeeps (Attributes rule)) levels
FirstFailingAttribute rule levels (Some place) =
    IsFirstAt (LevelKeeps (Attributes rule)) (IsFirstAttribute rule place.1) levels place.0

-- all levels of a name keep a rule
abbrev pub NameKeeps : NameRule → Name → Type 0
NameKeeps rule v = ∥ ((l : AreLevels v) × All (LevelKeeps rule) l.items) ∥₁
