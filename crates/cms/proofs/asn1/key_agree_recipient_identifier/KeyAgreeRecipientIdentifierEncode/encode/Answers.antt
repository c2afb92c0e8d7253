-- Written by asn1_compile: change the module instead.
use Rattle.cms.proofs.asn1.key_agree_recipient_identifier.KeyAgreeRecipientIdentifierEncode.encode.Goals as goal

pub returns-in-IssuerAndSerialNumber-clause-ok : goal.returns-in-IssuerAndSerialNumber-clause-ok
returns-in-IssuerAndSerialNumber-clause-ok g c = rw c.in-IssuerAndSerialNumber.is c.encode.ensures.ok

pub returns-in-IssuerAndSerialNumber-clause-succeeds : goal.returns-in-IssuerAndSerialNumber-clause-succeeds
returns-in-IssuerAndSerialNumber-clause-succeeds g c = rw c.in-IssuerAndSerialNumber.is c.encode.ensures.succeeds

pub returns-in-RKeyId-clause-ok : goal.returns-in-RKeyId-clause-ok
returns-in-RKeyId-clause-ok g c = rw c.in-RKeyId.is c.encode-in-RKeyId.ensures.ok

pub returns-in-RKeyId-clause-succeeds : goal.returns-in-RKeyId-clause-succeeds
returns-in-RKeyId-clause-succeeds g c = rw c.in-RKeyId.is c.encode-in-RKeyId.ensures.succeeds
