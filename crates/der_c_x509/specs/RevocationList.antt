-- A certificate revocation list as a struct of C (`IsRevocationListOf`; RFC 5280, 5.1).
use Rattle.std.specs.Prelude.{◌≡◌, ℕ, List, [], MatchOption}
use Rattle.std.specs.Option.{is_some}
use Rattle.x509.specs.declared.asn1.certificate_list.CertificateList.{CertificateList}
use Rattle.x509.specs.declared.asn1.tbs_cert_list.TbsCertList.{TbsCertList}
use Rattle.der_c_x509.specs.Certificate.{IsVersionOf}
use Rattle.der_c_x509.specs.Fields.{IsAlgorithmOf, IsBitsOf}
use Rattle.der_c_x509.specs.Times.{IsOptionalTimeOf, time_seconds}
use Rattle.der_c_x509.specs.declared.revocation_list.DerRevocationList.{DerRevocationList}

-- each field of the struct is that of the list; `encoding` is the octets of a signed part
pub record IsRevocationListOf (encoding : TbsCertList → List ℕ) (v : CertificateList)
    (l : DerRevocationList) : Type 0 where
  pub signed_part : l.signed_part.octets.now ≡ encoding v.tbs_cert_list
  pub version : MatchOption v.tbs_cert_list.version.0 (l.version ≡ 1)
      (λ n. IsVersionOf n.octets.now l.version)
  pub signed_algorithm : IsAlgorithmOf v.tbs_cert_list.signature l.signed_algorithm
  pub issuer : l.issuer.octets.now ≡ v.tbs_cert_list.issuer.levels.octets.now
  pub this_update : l.this_update ≡ time_seconds v.tbs_cert_list.this_update
  pub has_next_update : l.has_next_update ≡ is_some v.tbs_cert_list.next_update.0
  pub next_update : IsOptionalTimeOf v.tbs_cert_list.next_update.0 l.next_update
  pub has_entries : l.has_entries ≡ is_some v.tbs_cert_list.revoked_certificates.0
  pub entries : MatchOption v.tbs_cert_list.revoked_certificates.0 (l.entries.octets.now ≡ [])
      (λ e. l.entries.octets.now ≡ e.octets.now)
  pub has_extensions : l.has_extensions ≡ is_some v.tbs_cert_list.crl_extensions.0
  pub extensions : MatchOption v.tbs_cert_list.crl_extensions.0 (l.extensions.octets.now ≡ [])
      (λ e. l.extensions.octets.now ≡ e.0.items.octets.now)
  pub signature_algorithm : IsAlgorithmOf v.signature_algorithm l.signature_algorithm
  pub signature : IsBitsOf v.signature.octets.now l.signature
