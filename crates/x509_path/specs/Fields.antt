-- The version of a certificate, and the fields that versions allow (RFC 5280, 4.1.2.1, 4.1.2.8,
-- 4.1.2.9): `version_of`, `HasUniqueIdentifiers`, `HasExtensions`.
use Rattle.std.specs.Prelude.{◌==◌, ◌⊎◌, ℕ, List, [], ◌∷◌, IsSome, if◌then◌else◌}
use Rattle.path_rules.specs.declared.version.Version.{Version}
use Rattle.path_rules.specs.declared.version.Version.TheVariants.{V1, V2, V3}
use Rattle.x509.specs.declared.asn1.tbs_certificate.TbsCertificate.{TbsCertificate}

-- 0 for version 1, which is also that of a certificate without the field; 1 for version 2; and
-- otherwise 2, for version 3
abbrev pub version_by : List ℕ → Version
version_by [] = V1
version_by (o ∷ os) = if o == 0 then V1 else if o == 1 then V2 else V3

abbrev pub version_of : TbsCertificate → Version
version_of c = version_by c.version.0.0.octets.now

-- an issuerUniqueID or a subjectUniqueID
abbrev pub HasUniqueIdentifiers : TbsCertificate → Type 0
HasUniqueIdentifiers c = IsSome c.issuer_unique_id.0 ⊎ IsSome c.subject_unique_id.0

abbrev pub HasExtensions : TbsCertificate → Type 0
HasExtensions c = IsSome c.extensions.0
