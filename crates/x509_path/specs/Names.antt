-- What the nameConstraints of the certificates before say of the names of a certificate (RFC 5280,
-- 4.2.1.10; 6.1.3 (b), (c)): `HasPathVerdict`. The names are the subject, an emailAddress in it,
-- and the subjectAltName. A verdict comes with a reading of the extensions that it is about; an
-- extension that has no reading gives `Unclear`.
use Rattle.std.specs.Prelude.{◌≡◌, ◌≢◌, ◌⊎◌, ◌<◌, ◌^◌, ℕ, List, Option, Some, None, MatchOption}
use Rattle.std.specs.Prelude.{length}
use Rattle.der.specs.Prelude.{Sequence, element_octets}
use Rattle.der_asn1.specs.SequenceOf.{IsListOf}
use Rattle.x509.specs.CertificateLists.{AreExtensions, IsExtension, extension_encoding}
use Rattle.x509.specs.ExtensionIdentifiers.{id_ce}
use Rattle.x509.specs.Find.{HasOccurrence}
use Rattle.x509.specs.contracts.asn1.name_constraints.NameConstraintsItem.TheImpl as subtrees
use Rattle.x509.specs.contracts.asn1.relative_distinguished_name.RelativeDistinguishedNameItem.TheImpl as level
use Rattle.x509.specs.declared.asn1.extension.Extension.{Extension}
use Rattle.x509.specs.declared.asn1.extensions.Extensions.{Extensions}
use Rattle.x509.specs.declared.asn1.name.Name.{Name}
use Rattle.x509.specs.declared.asn1.name_constraints.NameConstraints.{NameConstraints}
use Rattle.x509.specs.declared.asn1.tbs_certificate.TbsCertificate.{TbsCertificate}
use Rattle.x509.specs.declared.find.occurrence.Occurrence.{Occurrence}
use Rattle.x509.specs.declared.find.occurrence.Occurrence.TheVariants.{Absent, Once, Several}
use Rattle.x509_names.specs.Judgements.{AreJudged, first_refusal}
use Rattle.x509_names.specs.Subjects.{HasSubjectVerdict}
use Rattle.x509_names.specs.Verdicts.{AreNames, HaveVerdict}
use Rattle.x509_names.specs.declared.matching.verdict.Verdict.{Verdict}
use Rattle.x509_names.specs.declared.matching.verdict.Verdict.TheVariants.{Permitted, Unclear}
use Rattle.x509_path.specs.declared.certificate.PathCertificate.{PathCertificate}

-- a subject with these octets, beside these alternative names or none
pub record IsReadSubject (n : NameConstraints) (octets : List ℕ) (names : Option (List ℕ))
    (v : Verdict) : Type 0 where
  pub subject : Name
  pub same : subject.levels.octets.now ≡ octets
  pub judged : HasSubjectVerdict n subject names v

-- octets, fewer than 2^32, are those of the levels of a name
pub record AreLevelOctets (octets : List ℕ) : Type 0 where
  pub short : length octets < 2 ^ 32
  pub levels : IsListOf level.ghosts.item.valid level.ghosts.item.octets octets

abbrev pub IsSubjectVerdict : NameConstraints → List ℕ → Option (List ℕ) → Verdict → Type 0
IsSubjectVerdict n octets names v =
    IsReadSubject n octets names v ⊎ ((AreLevelOctets octets → ⊥) × (v ≡ Unclear))

-- the first refusal of the subject, and of its alternative names
pub record AreNamesJudged (n : NameConstraints) (octets names : List ℕ) (v : Verdict)
    : Type 0 where
  pub subject : Verdict
  pub others : Verdict
  pub subject_is : IsSubjectVerdict n octets (Some names) subject
  pub others_are : HaveVerdict n names others
  pub is : v ≡ first_refusal subject others

-- a value of fewer than 2^32 octets is a subjectAltName with the names of these octets
pub record AreAltNames (value names : List ℕ) : Type 0 where
  pub short : length value < 2 ^ 32
  pub encoding : value ≡ element_octets Sequence names
  pub list : AreNames names

-- the value of a subjectAltName
abbrev pub IsAltNameVerdict : NameConstraints → List ℕ → List ℕ → Verdict → Type 0
IsAltNameVerdict n octets value v =
    ((names : List ℕ) × AreAltNames value names × AreNamesJudged n octets names v)
    ⊎ (((names : List ℕ) → AreAltNames value names → ⊥) × (v ≡ Unclear))

-- no subjectAltName, one, or several
abbrev pub IsOccurrenceVerdict : NameConstraints → List ℕ → Occurrence Extension → Verdict → Type 0
IsOccurrenceVerdict n octets Absent v = IsSubjectVerdict n octets None v
IsOccurrenceVerdict n octets (Once e) v = IsAltNameVerdict n octets e.extn_value.octets.now v
IsOccurrenceVerdict n octets Several v = v ≡ Unclear

-- the subjectAltName of a list of extensions
pub record HasAltNameVerdict (n : NameConstraints) (octets : List ℕ) (x : Extensions)
    (v : Verdict) : Type 0 where
  pub found : Occurrence Extension
  pub is_found : HasOccurrence IsExtension extension_encoding (λ e. e.extn_id.octets.now) (id_ce 17)
      x.items.octets.now found
  pub is : IsOccurrenceVerdict n octets found v

-- what a nameConstraints says of the names of a certificate
abbrev pub HasNamesVerdict : TbsCertificate → NameConstraints → Verdict → Type 0
HasNamesVerdict c n v =
    MatchOption c.extensions.0 (IsSubjectVerdict n c.subject.levels.octets.now None v)
    (λ x. HasAltNameVerdict n c.subject.levels.octets.now x.0 v)

-- a value of fewer than 2^32 octets is a nameConstraints
pub record IsConstraints (value : List ℕ) (n : NameConstraints) : Type 0 where
  pub short : length value < 2 ^ 32
  pub valid : subtrees.ghosts.item.valid n
  pub encoding : value ≡ subtrees.ghosts.item.octets n

-- the value of a nameConstraints
abbrev pub IsValueVerdict : TbsCertificate → List ℕ → Verdict → Type 0
IsValueVerdict c value v =
    ((n : NameConstraints) × IsConstraints value n × HasNamesVerdict c n v)
    ⊎ (((n : NameConstraints) → IsConstraints value n → ⊥) × (v ≡ Unclear))

-- an extension of an issuer, which says nothing of names if it is no nameConstraints
abbrev pub IsExtensionVerdict : TbsCertificate → Extension → Verdict → Type 0
IsExtensionVerdict c e v =
    ((e.extn_id.octets.now ≡ id_ce 30) × IsValueVerdict c e.extn_value.octets.now v)
    ⊎ ((e.extn_id.octets.now ≢ id_ce 30) × (v ≡ Permitted))

-- the extensions of an issuer: the first refusal counts
pub record HasListVerdict (c : TbsCertificate) (x : Extensions) (v : Verdict) : Type 0 where
  pub list : AreExtensions x
  pub are : AreJudged (IsExtensionVerdict c) list.items v

abbrev pub HasIssuerVerdict : TbsCertificate → TbsCertificate → Verdict → Type 0
HasIssuerVerdict c issuer v =
    MatchOption issuer.extensions.0 (v ≡ Permitted) (λ x. HasListVerdict c x.0 v)

-- the certificates before: the first refusal counts
abbrev pub HasPathVerdict : TbsCertificate → List PathCertificate → Verdict → Type 0
HasPathVerdict c before v =
    AreJudged (λ b w. HasIssuerVerdict c b.certificate.tbs_certificate w) before v

-- the certificates before say one thing of the names of a certificate, however these are read
abbrev pub HaveOneVerdict : Type 0
HaveOneVerdict =
    (c : TbsCertificate) (before : List PathCertificate) (v w : Verdict)
    → HasPathVerdict c before v → HasPathVerdict c before w → v ≡ w
