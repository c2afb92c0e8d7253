-- Written by asn1_compile: change the module instead.
use Rattle.x509.proofs.asn1.general_name.GeneralNameEncode.encode_before.Goals as goal

pub returns-in-OtherName : goal.returns-in-OtherName
returns-in-OtherName c = rw c.in-OtherName.is c.encode_before.ensures

pub returns-in-Rfc822Name : goal.returns-in-Rfc822Name
returns-in-Rfc822Name c = rw c.in-Rfc822Name.is c.encode_before-in-Rfc822Name.ensures

pub returns-in-DnsName : goal.returns-in-DnsName
returns-in-DnsName c = rw c.in-DnsName.is c.encode_before-in-DnsName.ensures

pub returns-in-X400Address : goal.returns-in-X400Address
returns-in-X400Address c = rw c.in-X400Address.is c.encode_before-in-X400Address.ensures

pub returns-in-DirectoryName : goal.returns-in-DirectoryName
returns-in-DirectoryName c = rw c.in-DirectoryName.is c.encode_before-in-DirectoryName.ensures

pub returns-in-EdiPartyName : goal.returns-in-EdiPartyName
returns-in-EdiPartyName c = rw c.in-EdiPartyName.is c.encode_before-in-EdiPartyName.ensures

pub returns-in-UniformResourceIdentifier : goal.returns-in-UniformResourceIdentifier
returns-in-UniformResourceIdentifier c = rw c.in-UniformResourceIdentifier.is c.encode_before-in-UniformResourceIdentifier.ensures

pub returns-in-IpAddress : goal.returns-in-IpAddress
returns-in-IpAddress c = rw c.in-IpAddress.is c.encode_before-in-IpAddress.ensures

pub returns-in-RegisteredId : goal.returns-in-RegisteredId
returns-in-RegisteredId c = rw c.in-RegisteredId.is c.encode_before-in-RegisteredId.ensures
