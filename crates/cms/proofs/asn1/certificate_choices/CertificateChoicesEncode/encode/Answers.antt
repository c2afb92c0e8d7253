-- Written by asn1_compile: change the module instead.
use Rattle.cms.proofs.asn1.certificate_choices.CertificateChoicesEncode.encode.Goals as goal

pub returns-in-Certificate-clause-ok : goal.returns-in-Certificate-clause-ok
returns-in-Certificate-clause-ok g c = rw c.in-Certificate.is c.encode.ensures.ok

pub returns-in-Certificate-clause-succeeds : goal.returns-in-Certificate-clause-succeeds
returns-in-Certificate-clause-succeeds g c = rw c.in-Certificate.is c.encode.ensures.succeeds

pub returns-in-ExtendedCertificate-clause-ok : goal.returns-in-ExtendedCertificate-clause-ok
returns-in-ExtendedCertificate-clause-ok g c = rw c.in-ExtendedCertificate.is c.encode-in-ExtendedCertificate.ensures.ok

pub returns-in-ExtendedCertificate-clause-succeeds : goal.returns-in-ExtendedCertificate-clause-succeeds
returns-in-ExtendedCertificate-clause-succeeds g c = rw c.in-ExtendedCertificate.is c.encode-in-ExtendedCertificate.ensures.succeeds

pub returns-in-V1AttrCert-clause-ok : goal.returns-in-V1AttrCert-clause-ok
returns-in-V1AttrCert-clause-ok g c = rw c.in-V1AttrCert.is c.encode-in-V1AttrCert.ensures.ok

pub returns-in-V1AttrCert-clause-succeeds : goal.returns-in-V1AttrCert-clause-succeeds
returns-in-V1AttrCert-clause-succeeds g c = rw c.in-V1AttrCert.is c.encode-in-V1AttrCert.ensures.succeeds

pub returns-in-V2AttrCert-clause-ok : goal.returns-in-V2AttrCert-clause-ok
returns-in-V2AttrCert-clause-ok g c = rw c.in-V2AttrCert.is c.encode-in-V2AttrCert.ensures.ok

pub returns-in-V2AttrCert-clause-succeeds : goal.returns-in-V2AttrCert-clause-succeeds
returns-in-V2AttrCert-clause-succeeds g c = rw c.in-V2AttrCert.is c.encode-in-V2AttrCert.ensures.succeeds

pub returns-in-Other-clause-ok : goal.returns-in-Other-clause-ok
returns-in-Other-clause-ok g c = rw c.in-Other.is c.encode-in-Other.ensures.ok

pub returns-in-Other-clause-succeeds : goal.returns-in-Other-clause-succeeds
returns-in-Other-clause-succeeds g c = rw c.in-Other.is c.encode-in-Other.ensures.succeeds
