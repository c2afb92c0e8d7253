-- Written by asn1_compile: change the module instead.
use Rattle.ocsp.proofs.asn1.cert_status.CertStatusEncode.encode.Goals as goal

pub returns-in-Good-clause-ok : goal.returns-in-Good-clause-ok
returns-in-Good-clause-ok g c = rw c.in-Good.is c.encode.ensures.ok

pub returns-in-Good-clause-succeeds : goal.returns-in-Good-clause-succeeds
returns-in-Good-clause-succeeds g c = rw c.in-Good.is c.encode.ensures.succeeds

pub returns-in-Revoked-clause-ok : goal.returns-in-Revoked-clause-ok
returns-in-Revoked-clause-ok g c = rw c.in-Revoked.is c.encode-in-Revoked.ensures.ok

pub returns-in-Revoked-clause-succeeds : goal.returns-in-Revoked-clause-succeeds
returns-in-Revoked-clause-succeeds g c = rw c.in-Revoked.is c.encode-in-Revoked.ensures.succeeds

pub returns-in-Unknown-clause-ok : goal.returns-in-Unknown-clause-ok
returns-in-Unknown-clause-ok g c = rw c.in-Unknown.is c.encode-in-Unknown.ensures.ok

pub returns-in-Unknown-clause-succeeds : goal.returns-in-Unknown-clause-succeeds
returns-in-Unknown-clause-succeeds g c = rw c.in-Unknown.is c.encode-in-Unknown.ensures.succeeds
