-- authorityKeyIdentifier as a struct of C (`IsAuthorityKeyOf`; RFC 5280, 4.2.1.1).
use Rattle.std.specs.Prelude.{◌≡◌, true, false, [], Option, Some, None}
use Rattle.std.specs.Option.{is_some}
use Rattle.x509.specs.declared.asn1.authority_key_identifier.AuthorityKeyIdentifier.{AuthorityKeyIdentifier}
use Rattle.x509.specs.declared.find.known.Known.{Known}
use Rattle.der_c_x509.specs.Fields.{IsOptionalSpanOf}
use Rattle.der_c_x509.specs.declared.authority_key.DerAuthorityKey.{DerAuthorityKey}

-- each field of the value, with whether it is present
pub record IsKeyOf (v : AuthorityKeyIdentifier) (k : DerAuthorityKey) : Type 0 where
  pub key_identifier : IsOptionalSpanOf (λ i. i.0.octets.now) v.key_identifier.0 k.key_identifier
  pub issuer : IsOptionalSpanOf (λ n. n.0.octets.now) v.authority_cert_issuer.0 k.issuer
  pub serial_number : IsOptionalSpanOf (λ n. n.0.octets.now) v.authority_cert_serial_number.0
      k.serial_number
  pub has_key_identifier : k.has_key_identifier ≡ is_some v.key_identifier.0
  pub has_issuer : k.has_issuer ≡ is_some v.authority_cert_issuer.0
  pub has_serial_number : k.has_serial_number ≡ is_some v.authority_cert_serial_number.0

-- no field
pub record IsNoKey (k : DerAuthorityKey) : Type 0 where
  pub key_identifier : k.key_identifier.octets.now ≡ []
  pub issuer : k.issuer.octets.now ≡ []
  pub serial_number : k.serial_number.octets.now ≡ []
  pub has_key_identifier : k.has_key_identifier ≡ false
  pub has_issuer : k.has_issuer ≡ false
  pub has_serial_number : k.has_serial_number ≡ false

-- the fields of the extension; if it is absent, nothing
abbrev pub IsAuthorityKeyOf : Option (Known AuthorityKeyIdentifier) → DerAuthorityKey → Type 0
IsAuthorityKeyOf None k = (k.present ≡ false) × (k.critical ≡ false) × IsNoKey k
IsAuthorityKeyOf (Some known) k =
    (k.present ≡ true) × (k.critical ≡ known.critical) × IsKeyOf known.value k
