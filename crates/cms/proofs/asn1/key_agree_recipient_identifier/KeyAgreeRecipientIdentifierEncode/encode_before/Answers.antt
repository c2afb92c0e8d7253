-- Written by asn1_compile: change the module instead.
use Rattle.cms.proofs.asn1.key_agree_recipient_identifier.KeyAgreeRecipientIdentifierEncode.encode_before.Goals as goal

pub returns-in-IssuerAndSerialNumber : goal.returns-in-IssuerAndSerialNumber
returns-in-IssuerAndSerialNumber c = rw c.in-IssuerAndSerialNumber.is c.encode_before.ensures

pub returns-in-RKeyId : goal.returns-in-RKeyId
returns-in-RKeyId c = rw c.in-RKeyId.is c.encode_before-in-RKeyId.ensures
