-- Written by asn1_compile: change the module instead.
use Rattle.ocsp.proofs.asn1.responder_id.ResponderIdEncode.encode_before.Goals as goal

pub returns-in-ByName : goal.returns-in-ByName
returns-in-ByName c = rw c.in-ByName.is c.encode_before.ensures

pub returns-in-ByKey : goal.returns-in-ByKey
returns-in-ByKey c = rw c.in-ByKey.is c.encode_before-in-ByKey.ensures
