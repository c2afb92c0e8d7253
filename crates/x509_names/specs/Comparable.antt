-- The names and the constraints that can be compared (RFC 5280, 4.2.1.10): the syntax of each form
-- that gives both one meaning.
use Rattle.std.specs.Prelude.{◌≡◌, ◌≢◌, ◌⊎◌, ◌||◌, ◌+◌, ℕ, Bool, true, List, [], nat_lt, slice_index, take}
use Rattle.std.specs.Prelude.{drop, EachIndex, IsUtf8}
use Rattle.x509_names.specs.HostNames.{IsBetween}
use Rattle.x509_names.specs.Hosts.{IsDomainName, begins_with_dot}
use Rattle.x509_names.specs.Mailboxes.{IsDotString, IsLastAt, is_atom_octet}
use Rattle.x509_names.specs.Uris.{HasDomainName, host_of}
use Rattle.x509_names.specs.UriSyntax.{IsHost, IsUri}

-- a host name without an asterisk, or an address of version 4
abbrev pub IsPlainHost : List ℕ → Type 0
IsPlainHost octets = (slice_index octets 0 ≢ 42) × IsHost octets

-- a dot, and a host name after it
abbrev pub IsDomain : List ℕ → Type 0
IsDomain octets = (begins_with_dot octets ≡ true) × IsPlainHost (drop 1 octets)

abbrev pub IsHostOrDomain : List ℕ → Type 0
IsHostOrDomain octets = IsPlainHost octets ⊎ IsDomain octets

-- the constraint of a dNSName: "any DNS name that can be constructed by simply adding zero or more
-- labels to the left-hand side of the name" is within it. So one without octets has all names
abbrev pub IsHostConstraint : List ℕ → Type 0
IsHostConstraint octets = (octets ≡ []) ⊎ IsHostOrDomain octets

-- the constraint of a URI: "a fully qualified domain name", which "may specify a host or a domain".
-- One without octets is neither
abbrev pub IsUriConstraint : List ℕ → Type 0
IsUriConstraint octets = IsHostOrDomain octets × IsDomainName octets

-- atoms with dots before a place, and a host after it
abbrev pub HasAtomsAt : List ℕ → ℕ → Type 0
HasAtomsAt octets at = IsDotString (take at octets) × IsPlainHost (drop (at + 1) octets)

-- a mailbox at a host. No atom and no host has an @, so there is one @
abbrev pub IsHostMailbox : List ℕ → Type 0
IsHostMailbox octets = (at : ℕ) × IsLastAt octets at × HasAtomsAt octets at

-- the constraint of an rfc822Name: "a particular mailbox, all addresses at a particular host, or all
-- mailboxes in a domain". One without octets is none of these
abbrev pub IsMailConstraint : List ℕ → Type 0
IsMailConstraint octets = IsHostMailbox octets ⊎ IsHostOrDomain octets

-- an authority has a host name, and no address
abbrev pub HasPlainHost : List ℕ → Type 0
HasPlainHost uri = HasDomainName uri × IsPlainHost (host_of uri)

-- a URI whose authority has a host name
abbrev pub IsHostUri : List ℕ → Type 0
IsHostUri uri = IsUri uri × HasPlainHost uri

-- a letter, a digit or a sign of an atom, or an octet of a character beyond ASCII (RFC 6531, 3.3)
abbrev pub is_utf8_atom_octet : ℕ → Bool
is_utf8_atom_octet o = is_atom_octet o || nat_lt 127 o

-- a dot stands between atoms
abbrev pub FitsUtf8Local : List ℕ → ℕ → Type 0
FitsUtf8Local octets k =
    (is_utf8_atom_octet (slice_index octets k) ≡ true)
    ⊎ ((slice_index octets k ≡ 46) × IsBetween octets k)

-- atoms with dots between them, in UTF-8
abbrev pub IsUtf8Local : List ℕ → Type 0
IsUtf8Local octets =
    (octets ≢ []) × (IsUtf8 octets × EachIndex octets (λ k. FitsUtf8Local octets k))

abbrev pub HasUtf8AtomsAt : List ℕ → ℕ → Type 0
HasUtf8AtomsAt octets at = IsUtf8Local (take at octets) × IsPlainHost (drop (at + 1) octets)

-- a mailbox in UTF-8 at a host, which is of ASCII: "all domain labels .. are encoded as LDH-labels"
-- (RFC 9598, 3)
abbrev pub IsUtf8HostMailbox : List ℕ → Type 0
IsUtf8HostMailbox octets = (at : ℕ) × IsLastAt octets at × HasUtf8AtomsAt octets at
