-- A private key as a struct of C (`IsPrivateKeyOf`; RFC 5958, 2).
use Rattle.std.specs.Prelude.{◌≡◌, ℕ, [], MatchOption}
use Rattle.std.specs.Option.{is_some}
use Rattle.pkcs8.specs.declared.asn1.private_key_info.PrivateKeyInfo.{PrivateKeyInfo}
use Rattle.pkcs8.specs.declared.asn1.version.Version.{Version}
use Rattle.pkcs8.specs.declared.asn1.version.Version.TheVariants.{V1, V2}
use Rattle.der_c_x509.specs.Fields.{IsAlgorithmOf, IsBitsOf, IsNoBits}
use Rattle.der_c_x509.specs.declared.private_key.DerPrivateKey.{DerPrivateKey}

abbrev pub version_number : Version → ℕ
version_number V1 = 1
version_number V2 = 2

-- each field of the struct is that of the key
pub record IsPrivateKeyOf (v : PrivateKeyInfo) (k : DerPrivateKey) : Type 0 where
  pub version : k.version ≡ version_number v.version.number.0
  pub algorithm : IsAlgorithmOf v.private_key_algorithm k.algorithm
  pub key : k.key.octets.now ≡ v.private_key.octets.now
  pub has_attributes : k.has_attributes ≡ is_some v.attributes.0
  pub attributes : MatchOption v.attributes.0 (k.attributes.octets.now ≡ [])
      (λ a. k.attributes.octets.now ≡ a.0.elements.octets.now)
  pub has_public_key : k.has_public_key ≡ is_some v.public_key.0
  pub public_key : MatchOption v.public_key.0 (IsNoBits k.public_key)
      (λ b. IsBitsOf b.0.octets.now k.public_key)
