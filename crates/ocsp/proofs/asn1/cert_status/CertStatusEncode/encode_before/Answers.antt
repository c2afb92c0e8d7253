-- Written by asn1_compile: change the module instead.
use Rattle.ocsp.proofs.asn1.cert_status.CertStatusEncode.encode_before.Goals as goal

pub returns-in-Good : goal.returns-in-Good
returns-in-Good c = rw c.in-Good.is c.encode_before.ensures

pub returns-in-Revoked : goal.returns-in-Revoked
returns-in-Revoked c = rw c.in-Revoked.is c.encode_before-in-Revoked.ensures

pub returns-in-Unknown : goal.returns-in-Unknown
returns-in-Unknown c = rw c.in-Unknown.is c.encode_before-in-Unknown.ensures
