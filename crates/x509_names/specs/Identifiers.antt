-- A host or an address that a client wants to reach, and the names of a certificate (RFC 9525, 6):
-- `HostMatches`, and `IsHostOf` and `IsAddressOf` of the names in a subjectAltName. The commonName of
-- a subject is no identifier (2).
use Rattle.std.specs.Prelude.{◌≡◌, ◌↔◌, ℕ, Bool, true, List}
use Rattle.x509.specs.declared.asn1.general_name.GeneralName.{GeneralName}
use Rattle.x509.specs.declared.asn1.general_name.GeneralName.TheVariants as name
use Rattle.x509_names.specs.Addresses.{IsAddress}
use Rattle.x509_names.specs.Comparable.{IsPlainHost}
use Rattle.x509_names.specs.Hosts.{IsDomainName, IsSameHost}
use Rattle.x509_names.specs.Lists.{SomeItem}
use Rattle.x509_names.specs.Verdicts.{AreNames}
use Rattle.x509_names.specs.Wildcards.{StandsFor}

-- a name of a certificate stands for a host, but for the case of letters. An asterisk that is the
-- whole first label stands for exactly one label (6.3)
abbrev pub HostMatches : List ℕ → List ℕ → Type 0
HostMatches presented wanted =
    (host : List ℕ) × StandsFor presented host × IsSameHost host wanted

-- the name of a host in ASCII, without an asterisk, and no address of version 4
abbrev pub IsDnsHost : List ℕ → Type 0
IsDnsHost octets = IsPlainHost octets × IsDomainName octets

-- a dNSName that matches the host (6.3)
abbrev pub PresentsHost : List ℕ → GeneralName → Type 0
PresentsHost host (name.DnsName n) = HostMatches n.0.octets.now host
PresentsHost host _ = ⊥

-- an iPAddress with the octets of the address (6.4)
abbrev pub PresentsAddress : List ℕ → GeneralName → Type 0
PresentsAddress address (name.IpAddress n) = n.0.octets.now ≡ address
PresentsAddress address _ = ⊥

-- whether one of the names matches the host, which is the name of one
pub record IsHostOf (octets host : List ℕ) (is_host : Bool) : Type 0 where
  pub names : AreNames octets
  pub is : (is_host ≡ true) ↔ (IsDnsHost host × SomeItem (PresentsHost host) names.items)

-- whether one of the names is the address, which has 4 or 16 octets
pub record IsAddressOf (octets address : List ℕ) (is_address : Bool) : Type 0 where
  pub names : AreNames octets
  pub is :
      (is_address ≡ true) ↔ (IsAddress address × SomeItem (PresentsAddress address) names.items)
