-- An entry of a revocation list as a struct of C (`IsRevokedOf`; RFC 5280, 5.1.2.6).
use Rattle.std.specs.Prelude.{◌≡◌, [], MatchOption}
use Rattle.std.specs.Option.{is_some}
use Rattle.x509.specs.declared.asn1.revoked_certificate.RevokedCertificate.{RevokedCertificate}
use Rattle.der_c_x509.specs.Times.{time_seconds}
use Rattle.der_c_x509.specs.declared.revoked.DerRevoked.{DerRevoked}

pub record IsRevokedOf (v : RevokedCertificate) (r : DerRevoked) : Type 0 where
  pub serial_number : r.serial_number.octets.now ≡ v.user_certificate.octets.now
  pub revocation_date : r.revocation_date ≡ time_seconds v.revocation_date
  pub has_extensions : r.has_extensions ≡ is_some v.crl_entry_extensions.0
  pub extensions : MatchOption v.crl_entry_extensions.0 (r.extensions.octets.now ≡ [])
      (λ e. r.extensions.octets.now ≡ e.items.octets.now)
