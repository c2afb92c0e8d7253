-- A certification request as a struct of C (`IsRequestOf`; RFC 2986, 4).
use Rattle.std.specs.Prelude.{◌≡◌, ℕ, List}
use Rattle.spki.specs.declared.asn1.subject_public_key_info_ref.SubjectPublicKeyInfoRef.{SubjectPublicKeyInfoRef}
use Rattle.x509.specs.declared.asn1.cert_req.CertReq.{CertReq}
use Rattle.x509.specs.declared.asn1.cert_req_info.CertReqInfo.{CertReqInfo}
use Rattle.der_c_x509.specs.Fields.{IsAlgorithmOf, IsBitsOf, IsPublicKeyOf}
use Rattle.der_c_x509.specs.declared.request.DerRequest.{DerRequest}

-- each field of the struct is that of the request; `encoding` and `key_encoding` are the octets of
-- a signed part and of a public key
pub record IsRequestOf (encoding : CertReqInfo → List ℕ)
    (key_encoding : SubjectPublicKeyInfoRef → List ℕ) (v : CertReq) (r : DerRequest) : Type 0 where
  pub signed_part : r.signed_part.octets.now ≡ encoding v.info
  pub subject : r.subject.octets.now ≡ v.info.subject.levels.octets.now
  pub public_key : IsPublicKeyOf key_encoding v.info.public_key r.public_key
  pub attributes : r.attributes.octets.now ≡ v.info.attributes.0.elements.octets.now
  pub signature_algorithm : IsAlgorithmOf v.algorithm r.signature_algorithm
  pub signature : IsBitsOf v.signature.octets.now r.signature
