-- The octets of a certificate (RFC 5280, 4.1), and those that its signature covers (4.1.1.3).
use Rattle.std.specs.Prelude.{ℕ, List}
use Rattle.x509.specs.contracts.asn1.certificate.CertificateItem.TheImpl as whole
use Rattle.x509.specs.contracts.asn1.tbs_certificate.TbsCertificateItem.TheImpl as part
use Rattle.x509.specs.declared.asn1.certificate.Certificate.{Certificate}

-- the element Certificate
abbrev pub certificate_octets : Certificate → List ℕ
certificate_octets c = whole.ghosts.item.octets c

-- the element TBSCertificate, with its header
abbrev pub signed_octets : Certificate → List ℕ
signed_octets c = part.ghosts.item.octets c.tbs_certificate
