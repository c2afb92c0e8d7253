-- Written by asn1_compile: change the module instead.
use Rattle.x509.proofs.asn1.time.TimeEncode.encode.Goals as goal

pub returns-in-UtcTime-clause-ok : goal.returns-in-UtcTime-clause-ok
returns-in-UtcTime-clause-ok g c = rw c.in-UtcTime.is c.encode.ensures.ok

pub returns-in-UtcTime-clause-succeeds : goal.returns-in-UtcTime-clause-succeeds
returns-in-UtcTime-clause-succeeds g c = rw c.in-UtcTime.is c.encode.ensures.succeeds

pub returns-in-GeneralTime-clause-ok : goal.returns-in-GeneralTime-clause-ok
returns-in-GeneralTime-clause-ok g c = rw c.in-GeneralTime.is c.encode-in-GeneralTime.ensures.ok

pub returns-in-GeneralTime-clause-succeeds : goal.returns-in-GeneralTime-clause-succeeds
returns-in-GeneralTime-clause-succeeds g c = rw c.in-GeneralTime.is c.encode-in-GeneralTime.ensures.succeeds
