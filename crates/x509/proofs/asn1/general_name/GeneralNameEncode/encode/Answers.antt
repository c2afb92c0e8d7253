-- Written by asn1_compile: change the module instead.
use Rattle.x509.proofs.asn1.general_name.GeneralNameEncode.encode.Goals as goal

pub returns-in-OtherName-clause-ok : goal.returns-in-OtherName-clause-ok
returns-in-OtherName-clause-ok g c = rw c.in-OtherName.is c.encode.ensures.ok

pub returns-in-OtherName-clause-succeeds : goal.returns-in-OtherName-clause-succeeds
returns-in-OtherName-clause-succeeds g c = rw c.in-OtherName.is c.encode.ensures.succeeds

pub returns-in-Rfc822Name-clause-ok : goal.returns-in-Rfc822Name-clause-ok
returns-in-Rfc822Name-clause-ok g c = rw c.in-Rfc822Name.is c.encode-in-Rfc822Name.ensures.ok

pub returns-in-Rfc822Name-clause-succeeds : goal.returns-in-Rfc822Name-clause-succeeds
returns-in-Rfc822Name-clause-succeeds g c = rw c.in-Rfc822Name.is c.encode-in-Rfc822Name.ensures.succeeds

pub returns-in-DnsName-clause-ok : goal.returns-in-DnsName-clause-ok
returns-in-DnsName-clause-ok g c = rw c.in-DnsName.is c.encode-in-DnsName.ensures.ok

pub returns-in-DnsName-clause-succeeds : goal.returns-in-DnsName-clause-succeeds
returns-in-DnsName-clause-succeeds g c = rw c.in-DnsName.is c.encode-in-DnsName.ensures.succeeds

pub returns-in-X400Address-clause-ok : goal.returns-in-X400Address-clause-ok
returns-in-X400Address-clause-ok g c = rw c.in-X400Address.is c.encode-in-X400Address.ensures.ok

pub returns-in-X400Address-clause-succeeds : goal.returns-in-X400Address-clause-succeeds
returns-in-X400Address-clause-succeeds g c = rw c.in-X400Address.is c.encode-in-X400Address.ensures.succeeds

pub returns-in-DirectoryName-clause-ok : goal.returns-in-DirectoryName-clause-ok
returns-in-DirectoryName-clause-ok g c = rw c.in-DirectoryName.is c.encode-in-DirectoryName.ensures.ok

pub returns-in-DirectoryName-clause-succeeds : goal.returns-in-DirectoryName-clause-succeeds
returns-in-DirectoryName-clause-succeeds g c = rw c.in-DirectoryName.is c.encode-in-DirectoryName.ensures.succeeds

pub returns-in-EdiPartyName-clause-ok : goal.returns-in-EdiPartyName-clause-ok
returns-in-EdiPartyName-clause-ok g c = rw c.in-EdiPartyName.is c.encode-in-EdiPartyName.ensures.ok

pub returns-in-EdiPartyName-clause-succeeds : goal.returns-in-EdiPartyName-clause-succeeds
returns-in-EdiPartyName-clause-succeeds g c = rw c.in-EdiPartyName.is c.encode-in-EdiPartyName.ensures.succeeds

pub returns-in-UniformResourceIdentifier-clause-ok : goal.returns-in-UniformResourceIdentifier-clause-ok
returns-in-UniformResourceIdentifier-clause-ok g c = rw c.in-UniformResourceIdentifier.is c.encode-in-UniformResourceIdentifier.ensures.ok

pub returns-in-UniformResourceIdentifier-clause-succeeds : goal.returns-in-UniformResourceIdentifier-clause-succeeds
returns-in-UniformResourceIdentifier-clause-succeeds g c = rw c.in-UniformResourceIdentifier.is c.encode-in-UniformResourceIdentifier.ensures.succeeds

pub returns-in-IpAddress-clause-ok : goal.returns-in-IpAddress-clause-ok
returns-in-IpAddress-clause-ok g c = rw c.in-IpAddress.is c.encode-in-IpAddress.ensures.ok

pub returns-in-IpAddress-clause-succeeds : goal.returns-in-IpAddress-clause-succeeds
returns-in-IpAddress-clause-succeeds g c = rw c.in-IpAddress.is c.encode-in-IpAddress.ensures.succeeds

pub returns-in-RegisteredId-clause-ok : goal.returns-in-RegisteredId-clause-ok
returns-in-RegisteredId-clause-ok g c = rw c.in-RegisteredId.is c.encode-in-RegisteredId.ensures.ok

pub returns-in-RegisteredId-clause-succeeds : goal.returns-in-RegisteredId-clause-succeeds
returns-in-RegisteredId-clause-succeeds g c = rw c.in-RegisteredId.is c.encode-in-RegisteredId.ensures.succeeds
