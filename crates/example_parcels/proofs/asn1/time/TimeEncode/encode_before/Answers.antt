-- Written by asn1_compile: change the module instead.
use Rattle.example_parcels.proofs.asn1.time.TimeEncode.encode_before.Goals as goal

pub returns-in-Utc : goal.returns-in-Utc
returns-in-Utc c = rw c.in-Utc.is c.encode_before.ensures

pub returns-in-General : goal.returns-in-General
returns-in-General c = rw c.in-General.is c.encode_before-in-General.ensures

pub returns-in-Unknown : goal.returns-in-Unknown
returns-in-Unknown c = rw c.in-Unknown.is c.encode_before-in-Unknown.ensures
