-- Written by asn1_compile: change the module instead.
use Rattle.pkcs8.proofs.asn1.pbkdf2_salt.Pbkdf2SaltEncode.encode.Goals as goal

pub returns-in-Specified-clause-ok : goal.returns-in-Specified-clause-ok
returns-in-Specified-clause-ok g c = rw c.in-Specified.is c.encode.ensures.ok

pub returns-in-Specified-clause-succeeds : goal.returns-in-Specified-clause-succeeds
returns-in-Specified-clause-succeeds g c = rw c.in-Specified.is c.encode.ensures.succeeds

pub returns-in-OtherSource-clause-ok : goal.returns-in-OtherSource-clause-ok
returns-in-OtherSource-clause-ok g c = rw c.in-OtherSource.is c.encode-in-OtherSource.ensures.ok

pub returns-in-OtherSource-clause-succeeds : goal.returns-in-OtherSource-clause-succeeds
returns-in-OtherSource-clause-succeeds g c = rw c.in-OtherSource.is c.encode-in-OtherSource.ensures.succeeds
