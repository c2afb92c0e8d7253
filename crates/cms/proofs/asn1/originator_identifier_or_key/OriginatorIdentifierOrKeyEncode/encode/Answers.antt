-- Written by asn1_compile: change the module instead.
use Rattle.cms.proofs.asn1.originator_identifier_or_key.OriginatorIdentifierOrKeyEncode.encode.Goals as goal

pub returns-in-IssuerAndSerialNumber-clause-ok : goal.returns-in-IssuerAndSerialNumber-clause-ok
returns-in-IssuerAndSerialNumber-clause-ok g c = rw c.in-IssuerAndSerialNumber.is c.encode.ensures.ok

pub returns-in-IssuerAndSerialNumber-clause-succeeds : goal.returns-in-IssuerAndSerialNumber-clause-succeeds
returns-in-IssuerAndSerialNumber-clause-succeeds g c = rw c.in-IssuerAndSerialNumber.is c.encode.ensures.succeeds

pub returns-in-SubjectKeyIdentifier-clause-ok : goal.returns-in-SubjectKeyIdentifier-clause-ok
returns-in-SubjectKeyIdentifier-clause-ok g c = rw c.in-SubjectKeyIdentifier.is c.encode-in-SubjectKeyIdentifier.ensures.ok

pub returns-in-SubjectKeyIdentifier-clause-succeeds : goal.returns-in-SubjectKeyIdentifier-clause-succeeds
returns-in-SubjectKeyIdentifier-clause-succeeds g c = rw c.in-SubjectKeyIdentifier.is c.encode-in-SubjectKeyIdentifier.ensures.succeeds

pub returns-in-OriginatorKey-clause-ok : goal.returns-in-OriginatorKey-clause-ok
returns-in-OriginatorKey-clause-ok g c = rw c.in-OriginatorKey.is c.encode-in-OriginatorKey.ensures.ok

pub returns-in-OriginatorKey-clause-succeeds : goal.returns-in-OriginatorKey-clause-succeeds
returns-in-OriginatorKey-clause-succeeds g c = rw c.in-OriginatorKey.is c.encode-in-OriginatorKey.ensures.succeeds
