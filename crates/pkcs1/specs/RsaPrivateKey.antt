-- Checks of a private RSA key that decoding does not make (RFC 8017, A.1.2).
use Rattle.std.specs.Prelude.{◌≡◌, ℕ, List, [], ◌∷◌, Option, Some, None}
use Rattle.pkcs1.specs.declared.asn1.rsa_private_key.RsaPrivateKey.{RsaPrivateKey}

-- the contents of the version: 0 without other primes, 1 with them
abbrev pub version_of_primes : {A : Type 0} → Option A → List ℕ
version_of_primes None = 0 ∷ []
version_of_primes (Some others) = 1 ∷ []

-- the version is that of the primes
abbrev pub MatchesRsaVersion : RsaPrivateKey → Type 0
MatchesRsaVersion v = v.version.octets.now ≡ version_of_primes v.other_prime_infos.0
