-- The signature that has to verify for a certificate, after those before it (RFC 5280, 6.1.3 (a)
-- (1)): `IsObligation`.
use Rattle.std.specs.Prelude.{◌≡◌, ◌==◌, ℕ, Bool, true, not, List, [], ◌∷◌, if◌then◌else◌}
use Rattle.spki.specs.declared.asn1.subject_public_key_info_ref.SubjectPublicKeyInfoRef.{SubjectPublicKeyInfoRef}
use Rattle.x509_path.specs.CertificateFacts.{part}
use Rattle.x509_path.specs.Encodings.{signed_octets}
use Rattle.x509_path.specs.declared.certificate.PathCertificate.{PathCertificate}
use Rattle.x509_path.specs.declared.inputs.Inputs.{Inputs}
use Rattle.x509_path.specs.declared.obligation.Obligation.{Obligation}

-- the key with which the next certificate is signed: that of the trust anchor, or of the last
-- certificate (6.1.2 (g), (h), (i), 6.1.4 (d), (e), (f)). A key without parameters inherits none
abbrev pub issuer_key : Inputs → List PathCertificate → SubjectPublicKeyInfoRef
issuer_key i [] = i.anchor.key
issuer_key i (c ∷ []) = (part c).subject_public_key_info
issuer_key i (c ∷ d ∷ cs) = issuer_key i (d ∷ cs)

-- whether the contents of a BIT STRING say that the last octet has unused bits (X.690 8.6.2.2)
abbrev pub has_unused_bits : List ℕ → Bool
has_unused_bits [] = true
has_unused_bits (o ∷ os) = not (o == 0)

-- the octets of a signature, whose BIT STRING has no unused bits (RFC 5280, 4.1.1.3); otherwise
-- none, which is no signature
abbrev pub signature_by : List ℕ → List ℕ
signature_by [] = []
signature_by (o ∷ os) = if o == 0 then os else []

-- the issuer's key, the algorithm with its parameters, the signed octets, and the signature
pub record IsObligation (i : Inputs) (before : List PathCertificate) (c : PathCertificate)
    (o : Obligation) : Type 0 where
  pub key : o.key.now ≡ issuer_key i before
  pub algorithm : o.algorithm.now ≡ c.certificate.signature_algorithm
  pub signed : o.signed.now ≡ signed_octets c.certificate
  pub signature : o.signature.now ≡ signature_by c.certificate.signature.octets.now
