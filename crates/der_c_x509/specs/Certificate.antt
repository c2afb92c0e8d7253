-- A certificate as a struct of C (`IsCertificateOf`; RFC 5280, 4.1).
use Rattle.std.specs.Prelude.{◌≡◌, ℕ, ◌+◌, List, [], ◌∷◌, MatchOption}
use Rattle.std.specs.Option.{is_some}
use Rattle.spki.specs.declared.asn1.subject_public_key_info_ref.SubjectPublicKeyInfoRef.{SubjectPublicKeyInfoRef}
use Rattle.x509.specs.declared.asn1.certificate.Certificate.{Certificate}
use Rattle.x509.specs.declared.asn1.tbs_certificate.TbsCertificate.{TbsCertificate}
use Rattle.der_c_x509.specs.Times.{time_seconds}
use Rattle.der_c_x509.specs.Fields.{IsAlgorithmOf, IsPublicKeyOf, IsBitsOf, IsNoBits}
use Rattle.der_c_x509.specs.declared.certificate.DerCertificate.{DerCertificate}

-- the number of the version whose INTEGER has these contents octets: 1 for 0, and so on (4.1.2.1)
abbrev pub IsVersionOf : List ℕ → ℕ → Type 0
IsVersionOf octets n = (o : ℕ) × (octets ≡ o ∷ []) × (n ≡ o + 1)

-- each field of the struct is that of the certificate; `encoding` and `key_encoding` are the octets
-- of a signed part and of a public key
pub record IsCertificateOf (encoding : TbsCertificate → List ℕ)
    (key_encoding : SubjectPublicKeyInfoRef → List ℕ) (v : Certificate) (c : DerCertificate)
    : Type 0 where
  pub signed_part : c.signed_part.octets.now ≡ encoding v.tbs_certificate
  pub version : IsVersionOf v.tbs_certificate.version.0.0.octets.now c.version
  pub serial_number : c.serial_number.octets.now ≡ v.tbs_certificate.serial_number.octets.now
  pub signed_algorithm : IsAlgorithmOf v.tbs_certificate.signature c.signed_algorithm
  pub issuer : c.issuer.octets.now ≡ v.tbs_certificate.issuer.levels.octets.now
  pub not_before : c.not_before ≡ time_seconds v.tbs_certificate.validity.not_before
  pub not_after : c.not_after ≡ time_seconds v.tbs_certificate.validity.not_after
  pub subject : c.subject.octets.now ≡ v.tbs_certificate.subject.levels.octets.now
  pub public_key : IsPublicKeyOf key_encoding v.tbs_certificate.subject_public_key_info c.public_key
  pub has_issuer_unique_id : c.has_issuer_unique_id ≡ is_some v.tbs_certificate.issuer_unique_id.0
  pub issuer_unique_id : MatchOption v.tbs_certificate.issuer_unique_id.0
      (IsNoBits c.issuer_unique_id) (λ b. IsBitsOf b.0.octets.now c.issuer_unique_id)
  pub has_subject_unique_id : c.has_subject_unique_id
      ≡ is_some v.tbs_certificate.subject_unique_id.0
  pub subject_unique_id : MatchOption v.tbs_certificate.subject_unique_id.0
      (IsNoBits c.subject_unique_id) (λ b. IsBitsOf b.0.octets.now c.subject_unique_id)
  pub has_extensions : c.has_extensions ≡ is_some v.tbs_certificate.extensions.0
  pub extensions : MatchOption v.tbs_certificate.extensions.0 (c.extensions.octets.now ≡ [])
      (λ e. c.extensions.octets.now ≡ e.0.items.octets.now)
  pub signature_algorithm : IsAlgorithmOf v.signature_algorithm c.signature_algorithm
  pub signature : IsBitsOf v.signature.octets.now c.signature
