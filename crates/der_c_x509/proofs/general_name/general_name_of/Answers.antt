use Rattle.der_c_x509.proofs.general_name.general_name_of.Goals as goal

pub returns-in-OtherName : goal.returns-in-OtherName
returns-in-OtherName c = rw c.in-OtherName.is c.other_name.ensures

pub returns-in-Rfc822Name : goal.returns-in-Rfc822Name
returns-in-Rfc822Name c = rw c.in-Rfc822Name.is (rw c.octets.ensures.value at c.plain_name.ensures)

pub returns-in-DnsName : goal.returns-in-DnsName
returns-in-DnsName c = rw c.in-DnsName.is (rw c.octets-in-DnsName.ensures.value at c.plain_name-in-DnsName.ensures)

pub returns-in-X400Address : goal.returns-in-X400Address
returns-in-X400Address c = rw c.in-X400Address.is (rw c.octets-in-X400Address.ensures.value at c.plain_name-in-X400Address.ensures)

pub returns-in-DirectoryName : goal.returns-in-DirectoryName
returns-in-DirectoryName c = rw c.in-DirectoryName.is (rw c.octets-in-DirectoryName.ensures.value at c.plain_name-in-DirectoryName.ensures)

pub returns-in-EdiPartyName : goal.returns-in-EdiPartyName
returns-in-EdiPartyName c = rw c.in-EdiPartyName.is c.plain_name-in-EdiPartyName.ensures

pub returns-in-UniformResourceIdentifier : goal.returns-in-UniformResourceIdentifier
returns-in-UniformResourceIdentifier c = rw c.in-UniformResourceIdentifier.is (rw c.octets-in-UniformResourceIdentifier.ensures.value at c.plain_name-in-UniformResourceIdentifier.ensures)

pub returns-in-IpAddress : goal.returns-in-IpAddress
returns-in-IpAddress c = rw c.in-IpAddress.is (rw c.octets-in-IpAddress.ensures.value at c.plain_name-in-IpAddress.ensures)

pub returns-in-RegisteredId : goal.returns-in-RegisteredId
returns-in-RegisteredId c = rw c.in-RegisteredId.is (rw c.octets-in-RegisteredId.ensures.value at c.plain_name-in-RegisteredId.ensures)
