-- Written by asn1_compile: change the module instead.
use Rattle.cms.proofs.asn1.originator_identifier_or_key.OriginatorIdentifierOrKeyEncode.encode_before.Goals as goal

pub returns-in-IssuerAndSerialNumber : goal.returns-in-IssuerAndSerialNumber
returns-in-IssuerAndSerialNumber c = rw c.in-IssuerAndSerialNumber.is c.encode_before.ensures

pub returns-in-SubjectKeyIdentifier : goal.returns-in-SubjectKeyIdentifier
returns-in-SubjectKeyIdentifier c = rw c.in-SubjectKeyIdentifier.is c.encode_before-in-SubjectKeyIdentifier.ensures

pub returns-in-OriginatorKey : goal.returns-in-OriginatorKey
returns-in-OriginatorKey c = rw c.in-OriginatorKey.is c.encode_before-in-OriginatorKey.ensures
