-- Extensions that are of one type, by their identifiers (RFC 5280, 4.2.1).
use Rattle.std.specs.Prelude.{◌≡◌, ◌⊎◌, ℕ, List}
use Rattle.x509.specs.ExtensionIdentifiers.{id_ce}

-- subjectAltName (4.2.1.6) and issuerAltName (4.2.1.7)
abbrev pub IsAltNames : List ℕ → Type 0
IsAltNames id = (id ≡ id_ce 17) ⊎ (id ≡ id_ce 18)

-- cRLDistributionPoints (4.2.1.13) and freshestCRL (4.2.1.15)
abbrev pub IsPoints : List ℕ → Type 0
IsPoints id = (id ≡ id_ce 31) ⊎ (id ≡ id_ce 46)
