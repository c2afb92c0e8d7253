-- Checks of a private key that decoding does not make (RFC 5958, 2).
use Rattle.std.specs.Prelude.{◌≡◌, IsSome}
use Rattle.pkcs8.specs.declared.asn1.private_key_info.PrivateKeyInfo.{PrivateKeyInfo}
use Rattle.pkcs8.specs.declared.asn1.version.Version.TheVariants as version

-- a public key is present only in version 2
abbrev pub MatchesPrivateKeyVersion : PrivateKeyInfo → Type 0
MatchesPrivateKeyVersion v = IsSome v.public_key.0 → v.version.number.0 ≡ version.V2
