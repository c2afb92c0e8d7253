-- Written by asn1_compile: change the module instead.
use Rattle.cms.proofs.asn1.certificate_choices.CertificateChoicesEncode.encode_before.Goals as goal

pub returns-in-Certificate : goal.returns-in-Certificate
returns-in-Certificate c = rw c.in-Certificate.is c.encode_before.ensures

pub returns-in-ExtendedCertificate : goal.returns-in-ExtendedCertificate
returns-in-ExtendedCertificate c = rw c.in-ExtendedCertificate.is c.encode_before-in-ExtendedCertificate.ensures

pub returns-in-V1AttrCert : goal.returns-in-V1AttrCert
returns-in-V1AttrCert c = rw c.in-V1AttrCert.is c.encode_before-in-V1AttrCert.ensures

pub returns-in-V2AttrCert : goal.returns-in-V2AttrCert
returns-in-V2AttrCert c = rw c.in-V2AttrCert.is c.encode_before-in-V2AttrCert.ensures

pub returns-in-Other : goal.returns-in-Other
returns-in-Other c = rw c.in-Other.is c.encode_before-in-Other.ensures
