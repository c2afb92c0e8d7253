-- Written by asn1_compile: change the module instead.
use Rattle.x509.proofs.asn1.time.TimeEncode.encode_before.Goals as goal

pub returns-in-UtcTime : goal.returns-in-UtcTime
returns-in-UtcTime c = rw c.in-UtcTime.is c.encode_before.ensures

pub returns-in-GeneralTime : goal.returns-in-GeneralTime
returns-in-GeneralTime c = rw c.in-GeneralTime.is c.encode_before-in-GeneralTime.ensures
