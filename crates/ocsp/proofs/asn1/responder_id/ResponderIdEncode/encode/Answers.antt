-- Written by asn1_compile: change the module instead.
use Rattle.ocsp.proofs.asn1.responder_id.ResponderIdEncode.encode.Goals as goal

pub returns-in-ByName-clause-ok : goal.returns-in-ByName-clause-ok
returns-in-ByName-clause-ok g c = rw c.in-ByName.is c.encode.ensures.ok

pub returns-in-ByName-clause-succeeds : goal.returns-in-ByName-clause-succeeds
returns-in-ByName-clause-succeeds g c = rw c.in-ByName.is c.encode.ensures.succeeds

pub returns-in-ByKey-clause-ok : goal.returns-in-ByKey-clause-ok
returns-in-ByKey-clause-ok g c = rw c.in-ByKey.is c.encode-in-ByKey.ensures.ok

pub returns-in-ByKey-clause-succeeds : goal.returns-in-ByKey-clause-succeeds
returns-in-ByKey-clause-succeeds g c = rw c.in-ByKey.is c.encode-in-ByKey.ensures.succeeds
