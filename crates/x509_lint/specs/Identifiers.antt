-- Identifiers that are looked for inside of values (`identifier_octets`).
use Rattle.std.specs.Prelude.{ℕ, List, [], ◌∷◌}
use Rattle.der_asn1.specs.Arcs.{oid_octets}
use Rattle.x509.specs.ExtensionIdentifiers.{id_ce}
use Rattle.x509_lint.specs.declared.identifier.Identifier.{Identifier}
use Rattle.x509_lint.specs.declared.identifier.Identifier.TheVariants.{CpsPointer, UserNotice, Reason, InvalidityDate, CertificateIssuer}

-- the two qualifiers of policies (RFC 5280, 4.2.1.4), and three extensions of entries (5.3)
abbrev pub identifier_octets : Identifier → List ℕ
identifier_octets CpsPointer = oid_octets (1 ∷ 3 ∷ 6 ∷ 1 ∷ 5 ∷ 5 ∷ 7 ∷ 2 ∷ 1 ∷ [])
identifier_octets UserNotice = oid_octets (1 ∷ 3 ∷ 6 ∷ 1 ∷ 5 ∷ 5 ∷ 7 ∷ 2 ∷ 2 ∷ [])
identifier_octets Reason = id_ce 21
identifier_octets InvalidityDate = id_ce 24
identifier_octets CertificateIssuer = id_ce 29
