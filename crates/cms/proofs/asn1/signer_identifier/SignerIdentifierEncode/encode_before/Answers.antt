-- Written by asn1_compile: change the module instead.
use Rattle.cms.proofs.asn1.signer_identifier.SignerIdentifierEncode.encode_before.Goals as goal

pub returns-in-IssuerAndSerialNumber : goal.returns-in-IssuerAndSerialNumber
returns-in-IssuerAndSerialNumber c = rw c.in-IssuerAndSerialNumber.is c.encode_before.ensures

pub returns-in-SubjectKeyIdentifier : goal.returns-in-SubjectKeyIdentifier
returns-in-SubjectKeyIdentifier c = rw c.in-SubjectKeyIdentifier.is c.encode_before-in-SubjectKeyIdentifier.ensures
