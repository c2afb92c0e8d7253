-- The contents of a name that has one form, or `None` for a name of another form (RFC 5280,
-- 4.2.1.6).
use Rattle.std.specs.Prelude.{ℕ, List, Option, Some, None}
use Rattle.x509.specs.declared.asn1.general_name.GeneralName.{GeneralName}
use Rattle.x509.specs.declared.asn1.general_name.GeneralName.TheVariants.{Rfc822Name, DnsName, DirectoryName, UniformResourceIdentifier, IpAddress}
use Rattle.x509.specs.declared.asn1.name.Name.{Name}

abbrev pub mail_octets : GeneralName → Option (List ℕ)
mail_octets (Rfc822Name v) = Some v.0.octets.now
mail_octets _ = None

abbrev pub dns_octets : GeneralName → Option (List ℕ)
dns_octets (DnsName v) = Some v.0.octets.now
dns_octets _ = None

abbrev pub uri_octets : GeneralName → Option (List ℕ)
uri_octets (UniformResourceIdentifier v) = Some v.0.octets.now
uri_octets _ = None

abbrev pub ip_octets : GeneralName → Option (List ℕ)
ip_octets (IpAddress v) = Some v.0.octets.now
ip_octets _ = None

abbrev pub directory_name : GeneralName → Option Name
directory_name (DirectoryName v) = Some v.0
directory_name _ = None
