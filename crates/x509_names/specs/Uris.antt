-- The parts of a URI (RFC 3986, 3), and the constraint of a uniformResourceIdentifier (RFC 5280,
-- 4.2.1.10): `host_of`, `IsUriWithin`.
use Rattle.std.specs.Prelude.{◌≡◌, ◌+◌, ◌||◌, ◌&&◌, ◌==◌, ℕ, Bool, true, List, length, nat_lt}
use Rattle.std.specs.Prelude.{if◌then◌else◌, slice_index, take, drop}
use Rattle.std.specs.List.{position_or_len}
use Rattle.x509_names.specs.Hosts.{IsDomainName, IsHostWithin}
use Rattle.x509_names.specs.declared.forms.mark.Mark.{Mark}
use Rattle.x509_names.specs.declared.forms.mark.Mark.TheVariants.{At, Close, Colon, End, Hash}

-- an octet at which a part of a URI ends: the @ of a user, the bracket of an address, the colon of a
-- scheme or of a port, one of / ? # after an authority, the # of a fragment
abbrev pub is_mark : Mark → ℕ → Bool
is_mark At o = o == 64
is_mark Close o = o == 93
is_mark Colon o = o == 58
is_mark End o = (o == 47) || (o == 63) || (o == 35)
is_mark Hash o = o == 35

-- the place of the first mark, or the end
abbrev pub first_mark : Mark → List ℕ → ℕ
first_mark mark octets = position_or_len (is_mark mark) octets

-- what is before the first mark, what is from it on, and what is after it
abbrev pub before : Mark → List ℕ → List ℕ
before mark octets = take (first_mark mark octets) octets

abbrev pub from_mark : Mark → List ℕ → List ℕ
from_mark mark octets = drop (first_mark mark octets) octets

abbrev pub after_mark : Mark → List ℕ → List ℕ
after_mark mark octets = drop (first_mark mark octets + 1) octets

-- two slashes after the scheme begin an authority
abbrev pub has_authority : List ℕ → Bool
has_authority uri =
    (slice_index (after_mark Colon uri) 0 == 47) && (slice_index (after_mark Colon uri) 1 == 47)

abbrev pub authority_of : List ℕ → List ℕ
authority_of uri = before End (drop 2 (after_mark Colon uri))

-- path, query and fragment
abbrev pub path_of : List ℕ → List ℕ
path_of uri =
    if has_authority uri then from_mark End (drop 2 (after_mark Colon uri)) else after_mark Colon uri

-- an authority has a user
abbrev pub has_user : List ℕ → Bool
has_user authority = nat_lt (first_mark At authority) (length authority)

-- the host and the port of an authority
abbrev pub host_and_port : List ℕ → List ℕ
host_and_port authority = if has_user authority then after_mark At authority else authority

-- the host of scheme://user@host:port/
abbrev pub host_of : List ℕ → List ℕ
host_of uri = before Colon (host_and_port (authority_of uri))

-- a URI has a host name, and no address in its place
abbrev pub HasDomainName : List ℕ → Type 0
HasDomainName uri = (has_authority uri ≡ true) × IsDomainName (host_of uri)

-- the host of a URI is within a constraint
abbrev pub IsUriWithin : List ℕ → List ℕ → Type 0
IsUriWithin base uri = (has_authority uri ≡ true) × IsHostWithin base (host_of uri)
