-- The syntax of URIs (RFC 3986): `HasScheme`, `IsUri`, and that an authority has a host (RFC 5280,
-- 4.2.1.6): `HasHost`. The inside of an address in brackets is not compared with the grammar of
-- addresses of version 6.
use Rattle.std.specs.Prelude.{◌≡◌, ◌≢◌, ◌⊎◌, ◌+◌, ◌<◌, ◌||◌, ◌&&◌, ◌==◌, ℕ, Bool, false, true, if◌then◌else◌}
use Rattle.std.specs.Prelude.{List, [], length, nat_lt, slice_index, drop, EachIndex}
use Rattle.x509_names.specs.HostNames.{FitsHost, is_alphanumeric}
use Rattle.x509_names.specs.Hosts.{is_letter}
use Rattle.x509_names.specs.Uris.{authority_of, before, after_mark, from_mark, has_authority, has_user, host_and_port, path_of}
use Rattle.x509_names.specs.declared.forms.mark.Mark.TheVariants.{At, Close, Colon, Hash}
use Rattle.x509_names.specs.declared.forms.uri_part.UriPart.{UriPart}
use Rattle.x509_names.specs.declared.forms.uri_part.UriPart.TheVariants.{User, Name, Literal, Port, Path}

-- a letter, a digit, or one of + - . (3.1)
abbrev pub is_scheme_octet : ℕ → Bool
is_scheme_octet o =
    is_letter o || nat_lt 47 o && nat_lt o 58 || (o == 43) || (o == 45) || (o == 46)

-- the first octet of a scheme is a letter
abbrev pub fits_scheme : ℕ → ℕ → Bool
fits_scheme k o = if k == 0 then is_letter o else is_scheme_octet o

-- an octet is at this place, with others before and after it
abbrev pub IsInside : ℕ → List ℕ → ℕ → Type 0
IsInside o octets n = (0 < n) × (n + 1 < length octets) × (slice_index octets n ≡ o)

-- a scheme, a colon, and at least one more octet
abbrev pub HasScheme : List ℕ → Type 0
HasScheme octets =
    (n : ℕ) × IsInside 58 octets n
    × ((k : ℕ) → k < n → fits_scheme k (slice_index octets k) ≡ true)

-- unreserved (2.3), a letter, a digit, or one of - . _ ~; and sub-delims (2.2), one of
-- ! $ & ' ( ) * + , ; =
abbrev pub is_name_octet : ℕ → Bool
is_name_octet o =
    is_alphanumeric o || nat_lt 37 o && nat_lt o 47 || (o == 33) || (o == 36) || (o == 59)
    || (o == 61) || (o == 95) || (o == 126)

-- a digit of hexadecimal
abbrev pub is_hexadecimal : ℕ → Bool
is_hexadecimal o =
    nat_lt 47 o && nat_lt o 58 || nat_lt 64 o && nat_lt o 71 || nat_lt 96 o && nat_lt o 103

-- an octet that a part of a URI may have: a user also a colon, an address in brackets too, a port
-- digits alone, and a path, a query or a fragment also : @ / ?
abbrev pub is_of : UriPart → ℕ → Bool
is_of User o = is_name_octet o || (o == 58)
is_of Name o = is_name_octet o
is_of Literal o = is_name_octet o || (o == 58)
is_of Port o = nat_lt 47 o && nat_lt o 58
is_of Path o = is_name_octet o || (o == 58) || (o == 64) || (o == 47) || (o == 63)

-- a percent sign and two digits of hexadecimal begin at this place (2.1)
abbrev pub IsEscape : List ℕ → ℕ → Type 0
IsEscape octets k =
    (slice_index octets k ≡ 37) × (k + 2 < length octets)
    × (is_hexadecimal (slice_index octets (k + 1)) ≡ true)
    × (is_hexadecimal (slice_index octets (k + 2)) ≡ true)

-- all octets are of a part, but for percent signs before digits; an address and a port have none
abbrev pub allows_escapes : UriPart → Bool
allows_escapes Literal = false
allows_escapes Port = false
allows_escapes _ = true

abbrev pub AreOf : UriPart → List ℕ → Type 0
AreOf part octets =
    EachIndex octets (λ k. (is_of part (slice_index octets k) ≡ true)
    ⊎ ((allows_escapes part ≡ true) × IsEscape octets k))

-- nothing, or a colon and digits
abbrev pub IsPortIfPresent : List ℕ → Type 0
IsPortIfPresent octets = (octets ≡ []) ⊎ ((slice_index octets 0 ≡ 58) × AreOf Port (drop 1 octets))

-- an address in brackets, and a port
abbrev pub IsLiteral : List ℕ → Type 0
IsLiteral octets =
    (slice_index octets 0 ≡ 91) × (before Close octets ≢ octets)
    × (drop 1 (before Close octets) ≢ []) × AreOf Literal (drop 1 (before Close octets))
    × IsPortIfPresent (after_mark Close octets)

-- a name, and a port
abbrev pub IsNameAndPort : List ℕ → Type 0
IsNameAndPort octets =
    AreOf Name (before Colon octets) × IsPortIfPresent (from_mark Colon octets)

-- a user that may be absent, and a host and port (3.2)
abbrev pub IsAuthority : List ℕ → Type 0
IsAuthority octets =
    (has_user octets ≡ true → AreOf User (before At octets))
    × (IsLiteral (host_and_port octets) ⊎ IsNameAndPort (host_and_port octets))

-- path, query and fragment (3.3 to 3.5)
abbrev pub IsPath : List ℕ → Type 0
IsPath octets = AreOf Path (before Hash octets) × AreOf Path (after_mark Hash octets)

-- an authority that may be absent, and a path
abbrev pub HasParts : List ℕ → Type 0
HasParts uri = (has_authority uri ≡ true → IsAuthority (authority_of uri)) × IsPath (path_of uri)

-- a URI with all its parts
abbrev pub IsUri : List ℕ → Type 0
IsUri uri = HasScheme uri × HasParts uri

-- a host name, or an address of version 4, whose octets are those of a host name
abbrev pub IsHost : List ℕ → Type 0
IsHost octets = (octets ≢ []) × EachIndex octets (λ k. FitsHost octets k)

-- an authority has a host name or an address
abbrev pub HasHost : List ℕ → Type 0
HasHost uri =
    has_authority uri ≡ true
    → IsLiteral (host_and_port (authority_of uri)) ⊎ IsHost (before Colon (host_and_port (authority_of uri)))
