-- The rules that a certificate breaks, and where (`FindsPlace`, `GivesFinding`).
use Rattle.std.specs.Prelude.{◌≡◌, ◌⊎◌, ℕ, List, [], ◌∷◌, ◌++◌, All, Option, Some, None, IsSomeAnd}
use Rattle.x509_lint.specs.CertificateChecks.{ExtensionKeeps, Keeps}
use Rattle.x509.specs.CertificateLists.{AreExtensions, AreLevels}
use Rattle.x509.specs.Firsts.{FailsFirstAt}
use Rattle.x509_lint.specs.NameChecks.{FirstFailingAttribute, LevelKeeps}
use Rattle.x509.specs.declared.asn1.certificate.Certificate.{Certificate}
use Rattle.x509.specs.declared.asn1.extensions.Extensions.{Extensions}
use Rattle.x509.specs.declared.asn1.name.Name.{Name}
use Rattle.x509.specs.declared.asn1.tbs_certificate.TbsCertificate.{TbsCertificate}
use Rattle.x509_lint.specs.declared.extension_rule.ExtensionRule.{ExtensionRule}
use Rattle.x509_lint.specs.declared.finding.Finding.{Finding}
use Rattle.x509_lint.specs.declared.name_rule.NameRule.{NameRule}
use Rattle.x509_lint.specs.declared.name_rule.NameRule.TheVariants.{Attributes, Levels}
use Rattle.x509_lint.specs.declared.place.Place.{Place}
use Rattle.x509_lint.specs.declared.place.Place.TheVariants as at
use Rattle.x509_lint.specs.declared.rule.Rule.{Rule}
use Rattle.x509_lint.specs.declared.rule.Rule.TheVariants as of

-- the first extension that breaks a rule
abbrev pub IsFirstExtension : ExtensionRule → Extensions → ℕ → Type 0
IsFirstExtension rule v place =
    (l : AreExtensions v) → FailsFirstAt (ExtensionKeeps rule l.items) l.items place

-- the place is that of the first level of a name that breaks a rule, or of the first attribute that
-- does and its level
abbrev pub IsNamePlace : NameRule → Name → Place → Type 0
IsNamePlace Levels v (at.Level i) =
    (l : AreLevels v) → FailsFirstAt (LevelKeeps Levels) l.items i
IsNamePlace (Attributes rule) v (at.Attribute i j) =
    (l : AreLevels v) → FirstFailingAttribute rule l.items (Some (i, j))
IsNamePlace _ v _ = ⊥

-- the place is that of the first extension that breaks a rule
abbrev pub IsExtensionPlace : ExtensionRule → TbsCertificate → Place → Type 0
IsExtensionPlace rule v (at.Extension i) =
    IsSomeAnd v.extensions.0 (λ e. IsFirstExtension rule e.0 i)
IsExtensionPlace rule v _ = ⊥

-- the place says where a certificate breaks a rule: the first level or attribute of a name, the
-- first extension, or else the certificate as a whole
abbrev pub IsPlaceOf : Rule → Certificate → Place → Type 0
IsPlaceOf (of.Issuer r) c place = IsNamePlace r c.tbs_certificate.issuer place
IsPlaceOf (of.Subject r) c place = IsNamePlace r c.tbs_certificate.subject place
IsPlaceOf (of.Extension r) c place = IsExtensionPlace r c.tbs_certificate place
IsPlaceOf _ c place = place ≡ at.Certificate

-- a certificate breaks a rule, at this place
abbrev pub Breaks : Rule → Certificate → Place → Type 0
Breaks rule c place = (Keeps rule c → ⊥) × IsPlaceOf rule c place

-- a certificate keeps a rule; or breaks it, at this place
abbrev pub FindsPlace : Rule → Certificate → Option Place → Type 0
FindsPlace rule c None = Keeps rule c
FindsPlace rule c (Some place) = Breaks rule c place

-- the next rule that a certificate breaks, of these, and the rules behind it; the certificate keeps
-- all rules before it. Or it keeps all rules
abbrev pub GivesFinding : Certificate → List Rule → Option Finding → List Rule → Type 0
GivesFinding c rules (Some f) others =
    (kept : List Rule) × (rules ≡ kept ++ f.rule ∷ others) × All (λ r. Keeps r c) kept
    × Breaks f.rule c f.place
GivesFinding c rules None others = All (λ r. Keeps r c) rules × (others ≡ [])

-- the findings of a certificate by these rules, in their order: the certificate keeps the next
-- rule, or breaks it and the next finding says where
abbrev pub AreFindings : Certificate → List Rule → List Finding → Type 0
AreFindings c [] findings = findings ≡ []
AreFindings c (r ∷ rules) findings =
    (Keeps r c × AreFindings c rules findings)
    ⊎ ((f : Finding) × (others : List Finding) × (findings ≡ f ∷ others) × (f.rule ≡ r)
    × Breaks r c f.place × AreFindings c rules others)
