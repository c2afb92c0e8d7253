-- What a certificate needs to issue others (RFC 5280, 6.1.4 (k), (n)): `IsAuthority`, `MaySign`.
use Rattle.x509.specs.declared.asn1.tbs_certificate.TbsCertificate.{TbsCertificate}
use Rattle.x509_lint.specs.CertificateChecks.{IsPresent}
use Rattle.x509_lint.specs.declared.extension_test.ExtensionTest.TheVariants as test

-- a basicConstraints whose cA is true
abbrev pub IsAuthority : TbsCertificate → Type 0
IsAuthority c = IsPresent test.Authority c

-- if there is a keyUsage, there is one with the bit keyCertSign
abbrev pub MaySign : TbsCertificate → Type 0
MaySign c = IsPresent test.KeyUsage c → IsPresent test.CertSign c
