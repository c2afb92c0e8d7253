-- Mailboxes: their syntax (RFC 5321, 4.1.2; `IsMailbox`), compared (RFC 5280, 7.5;
-- `MailboxesMatch`), and with the constraint of an rfc822Name (4.2.1.10; `IsMailWithin`).
use Rattle.std.specs.Prelude.{◌≡◌, ◌≢◌, ◌⊎◌, ◌+◌, ◌-◌, ◌<◌, ◌≤◌, ◌||◌, ◌&&◌, ◌==◌, ℕ, Bool, true, List, []}
use Rattle.std.specs.Prelude.{length, nat_lt, slice_index, take, drop, EachIndex}
use Rattle.x509_names.specs.HostNames.{IsBetween, is_alphanumeric}
use Rattle.x509_names.specs.UriSyntax.{IsHost}
use Rattle.x509_names.specs.Hosts.{IsHostWithin, IsSameHost}

-- the last @ is at this place: the host is after it, and the local part before it
abbrev pub IsLastAt : List ℕ → ℕ → Type 0
IsLastAt octets at =
    (at < length octets) × (slice_index octets at ≡ 64)
    × ((k : ℕ) → at < k → k < length octets → slice_index octets k ≢ 64)

-- there is an @, so that the mailbox can be compared
abbrev pub HasMailbox : List ℕ → Type 0
HasMailbox octets = (at : ℕ) × IsLastAt octets at

-- there is no @
abbrev pub HasNoAt : List ℕ → Type 0
HasNoAt octets = (k : ℕ) → k < length octets → slice_index octets k ≢ 64

-- the same octets before these places, and the same host after them, without case
abbrev pub IsSameAt : List ℕ → ℕ → List ℕ → ℕ → Type 0
IsSameAt first at second place =
    (take at first ≡ take place second)
    × IsSameHost (drop (at + 1) first) (drop (place + 1) second)

-- the same local part, octet by octet, and the same host without case
abbrev pub MailboxesMatch : List ℕ → List ℕ → Type 0
MailboxesMatch first second =
    (at : ℕ) × (place : ℕ) × IsLastAt first at × IsLastAt second place
    × IsSameAt first at second place

-- a mailbox is the one that a constraint names; or the constraint has no @, and the host of the
-- mailbox is within it
abbrev pub IsMailWithin : List ℕ → List ℕ → Type 0
IsMailWithin base name =
    MailboxesMatch name base
    ⊎ (HasNoAt base × ((n : ℕ) × IsLastAt name n × IsHostWithin base (drop (n + 1) name)))

-- an octet of an atom (RFC 5322, 3.2.3): a letter, a digit, or one of ! # $ % & ' * + - / = ? ^ _ ` { | } ~
abbrev pub is_atom_octet : ℕ → Bool
is_atom_octet o =
    is_alphanumeric o || (o == 33) || nat_lt 34 o && nat_lt o 40 || (o == 42) || (o == 43)
    || (o == 45) || (o == 47) || (o == 61) || (o == 63) || nat_lt 93 o && nat_lt o 97
    || nat_lt 122 o && nat_lt o 127

-- a dot stands between atoms
abbrev pub FitsLocal : List ℕ → ℕ → Type 0
FitsLocal octets k =
    (is_atom_octet (slice_index octets k) ≡ true)
    ⊎ ((slice_index octets k ≡ 46) × IsBetween octets k)

-- atoms with dots between them (RFC 5321, 4.1.2)
abbrev pub IsDotString : List ℕ → Type 0
IsDotString octets = (octets ≢ []) × EachIndex octets (λ k. FitsLocal octets k)

-- a character of ASCII that is printed, at this place; a quotation mark has a backslash before it
abbrev pub FitsQuoted : List ℕ → ℕ → Type 0
FitsQuoted octets k =
    (31 < slice_index octets k) × (slice_index octets k < 127)
    × (slice_index octets k ≡ 34 → (0 < k) × (slice_index octets (k - 1) ≡ 92))

-- a quotation mark at both ends
abbrev pub HasQuotes : List ℕ → Type 0
HasQuotes octets =
    (2 ≤ length octets) × (slice_index octets 0 ≡ 34)
    × (slice_index octets (length octets - 1) ≡ 34)

abbrev pub AreQuoted : List ℕ → Type 0
AreQuoted octets = EachIndex octets (λ k. FitsQuoted octets k)

-- text in quotation marks
abbrev pub IsQuotedString : List ℕ → Type 0
IsQuotedString octets =
    HasQuotes octets × AreQuoted (take (length octets - 2) (drop 1 octets))

-- the domain of a mailbox: a host name, or an address in brackets
abbrev pub IsMailDomain : List ℕ → Type 0
IsMailDomain octets =
    IsHost octets ⊎ ((2 < length octets) × (slice_index octets 0 ≡ 91)
    × (slice_index octets (length octets - 1) ≡ 93))

abbrev pub IsLocalPart : List ℕ → Type 0
IsLocalPart octets = IsDotString octets ⊎ IsQuotedString octets

-- a local part before a place, and a domain after it
abbrev pub HasPartsAt : List ℕ → ℕ → Type 0
HasPartsAt octets at = IsLocalPart (take at octets) × IsMailDomain (drop (at + 1) octets)

-- local part, @ and domain: no phrase, no comment, and no angle brackets
abbrev pub IsMailbox : List ℕ → Type 0
IsMailbox octets =
    (at : ℕ) × IsLastAt octets at × HasPartsAt octets at
