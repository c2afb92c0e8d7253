-- The facts of a certificate of a path, after those before it, which are in the order of the path:
-- `AreFacts`.
use Rattle.std.specs.Prelude.{◌≡◌, ◌↔◌, ℕ, Bool, false, List, [], ◌∷◌, IsTrue}
use Rattle.path_rules.specs.Path.{HasRoom}
use Rattle.path_rules.specs.declared.facts.Facts.{Facts}
use Rattle.x509.specs.declared.asn1.name.Name.{Name}
use Rattle.x509.specs.declared.asn1.tbs_certificate.TbsCertificate.{TbsCertificate}
use Rattle.x509_lint.specs.CertificateChecks.{ExtensionsKeepIfPresent}
use Rattle.x509_lint.specs.Checks.{HasSameAlgorithms}
use Rattle.x509_lint.specs.declared.extension_rule.ExtensionRule.TheVariants as rule
use Rattle.x509_names.specs.NameMatching.{NamesMatch}
use Rattle.x509_names.specs.declared.matching.verdict.Verdict.{Verdict}
use Rattle.x509_names.specs.declared.matching.verdict.Verdict.TheVariants.{Permitted}
use Rattle.x509_path.specs.Authority.{IsAuthority, MaySign}
use Rattle.x509_path.specs.Extensions.{IsUnderstood}
use Rattle.x509_path.specs.Fields.{HasExtensions, HasUniqueIdentifiers, version_of}
use Rattle.x509_path.specs.Names.{HasPathVerdict}
use Rattle.x509_path.specs.PathLimits.{AllowsPath}
use Rattle.x509_path.specs.Validity.{IsCurrent}
use Rattle.x509_path.specs.declared.certificate.PathCertificate.{PathCertificate}
use Rattle.x509_path.specs.declared.inputs.Inputs.{Inputs}

abbrev pub part : PathCertificate → TbsCertificate
part c = c.certificate.tbs_certificate

-- the name with which the next certificate is issued: that of the trust anchor, or the subject of
-- the last certificate (6.1.2 (j), 6.1.4 (c))
abbrev pub issuer_name : Inputs → List PathCertificate → Name
issuer_name i [] = i.anchor.name
issuer_name i (c ∷ []) = (part c).subject
issuer_name i (c ∷ d ∷ cs) = issuer_name i (d ∷ cs)

-- the issuer is the subject (6.1)
abbrev pub IsSelfIssued : TbsCertificate → Type 0
IsSelfIssued c = NamesMatch c.issuer c.subject

-- whether the verdict of the certificates before on the names is that they are permitted
abbrev pub IsPermittedAs : Bool → TbsCertificate → List PathCertificate → Type 0
IsPermittedAs b c before =
    (v : Verdict) × HasPathVerdict c before v × (IsTrue b ↔ (v ≡ Permitted))

-- each fact of a certificate. No caller can say by other means that a certificate of version 1 or 2
-- is that of an authority
pub record AreFacts (i : Inputs) (before : List PathCertificate) (c : PathCertificate) (f : Facts)
    : Type 0 where
  pub algorithms : IsTrue f.has_same_algorithms ↔ HasSameAlgorithms c.certificate
  pub version : f.version ≡ version_of (part c)
  pub identifiers : IsTrue f.has_unique_identifiers ↔ HasUniqueIdentifiers (part c)
  pub extensions : IsTrue f.has_extensions ↔ HasExtensions (part c)
  pub distinct : IsTrue f.has_distinct_extensions ↔ ExtensionsKeepIfPresent rule.Instances (part c)
  pub current : IsTrue f.is_current ↔ IsCurrent (part c).validity i.time
  pub chained : IsTrue f.is_chained ↔ NamesMatch (part c).issuer (issuer_name i before)
  pub permitted : IsPermittedAs f.is_permitted (part c) before
  pub self_issued : IsTrue f.is_self_issued ↔ IsSelfIssued (part c)
  pub authority : IsTrue f.is_authority ↔ IsAuthority (part c)
  pub other_means : f.is_known_authority ≡ false
  pub limit : (n : ℕ) → HasRoom f.path_limit n ↔ AllowsPath n (part c)
  pub signs : IsTrue f.may_sign ↔ MaySign (part c)
  pub understood : IsTrue f.is_understood ↔ IsUnderstood i.judges_policies (part c)
