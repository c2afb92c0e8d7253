-- Checks of a certificate that decoding does not make (RFC 5280, 4.1).
use Rattle.std.specs.Prelude.{◌≡◌, ◌≤◌, ℕ, List, [], ◌∷◌, Option, Some, None, IsSome}
use Rattle.der.specs.Prelude.{Tag}
use Rattle.der_asn1.specs.AnyRef.{any_contents}
use Rattle.der_asn1.specs.declared.elements.any.AnyRef.{AnyRef}
use Rattle.spki.specs.declared.asn1.algorithm_identifier_ref.AlgorithmIdentifierRef.{AlgorithmIdentifierRef}
use Rattle.x509.specs.declared.asn1.certificate.Certificate.{Certificate}
use Rattle.x509.specs.declared.asn1.tbs_certificate.TbsCertificate.{TbsCertificate}

-- 0, 1 or 2, for version 1, 2 or 3 (4.1.2.1)
abbrev pub certificate_version_number : List ℕ → ℕ
certificate_version_number [] = 0
certificate_version_number (o ∷ os) = o

abbrev pub certificate_version : TbsCertificate → ℕ
certificate_version v = certificate_version_number v.version.0.0.octets.now

-- unique identifiers are present only in version 2 or 3 (4.1.2.8), and extensions only in version 3
-- (4.1.2.9)
abbrev pub MatchesCertificateVersion : TbsCertificate → Type 0
MatchesCertificateVersion v =
    (IsSome v.issuer_unique_id.0 → 1 ≤ certificate_version v)
    × (IsSome v.subject_unique_id.0 → 1 ≤ certificate_version v)
    × (IsSome v.extensions.0 → certificate_version v ≡ 2)

-- the parameters of an algorithm: none, or the tag and contents of an element
abbrev pub parameters_of : Option AnyRef → Option (Tag × List ℕ)
parameters_of None = None
parameters_of (Some v) = Some (v.tag, any_contents v)

-- the same algorithm, with the same parameters (4.1.1.2)
abbrev pub IsSameAlgorithm : AlgorithmIdentifierRef → AlgorithmIdentifierRef → Type 0
IsSameAlgorithm v w =
    (v.oid.octets.now ≡ w.oid.octets.now)
    × (parameters_of v.parameters.0 ≡ parameters_of w.parameters.0)

-- the signature's algorithm is the one in the signed part (4.1.1.2, 4.1.2.3)
abbrev pub HasSameAlgorithms : Certificate → Type 0
HasSameAlgorithms v = IsSameAlgorithm v.signature_algorithm v.tbs_certificate.signature
