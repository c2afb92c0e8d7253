-- Written by asn1_compile: change the module instead.
use Rattle.pkcs8.proofs.asn1.pbkdf2_salt.Pbkdf2SaltEncode.encode_before.Goals as goal

pub returns-in-Specified : goal.returns-in-Specified
returns-in-Specified c = rw c.in-Specified.is c.encode_before.ensures

pub returns-in-OtherSource : goal.returns-in-OtherSource
returns-in-OtherSource c = rw c.in-OtherSource.is c.encode_before-in-OtherSource.ensures
