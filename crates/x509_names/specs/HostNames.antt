-- Host names in the preferred syntax (RFC 1034, 3.5; RFC 1123, 2.1), as a dNSName has them (RFC
-- 5280, 4.2.1.6): `IsHostName`.
use Rattle.std.specs.Prelude.{◌≡◌, ◌≢◌, ◌⊎◌, ◌+◌, ◌-◌, ◌<◌, ◌≤◌, ◌||◌, ◌&&◌, ℕ, Bool, true}
use Rattle.std.specs.Prelude.{List, [], length, nat_lt, slice_index, EachIndex}

-- a letter or a digit of ASCII
abbrev pub is_alphanumeric : ℕ → Bool
is_alphanumeric o =
    nat_lt 64 o && nat_lt o 91 || nat_lt 96 o && nat_lt o 123 || nat_lt 47 o && nat_lt o 58

-- a place that is neither at an end nor beside a dot
abbrev pub IsBetween : List ℕ → ℕ → Type 0
IsBetween octets k =
    (0 < k) × (k + 1 < length octets) × (slice_index octets (k - 1) ≢ 46)
    × (slice_index octets (k + 1) ≢ 46)

-- the octet at a place is a letter or a digit; or a hyphen or a dot, which is neither at an end nor
-- beside a dot; or the asterisk of a first label
abbrev pub FitsHost : List ℕ → ℕ → Type 0
FitsHost octets k =
    (is_alphanumeric (slice_index octets k) ≡ true)
    ⊎ (((slice_index octets k ≡ 45) ⊎ (slice_index octets k ≡ 46)) × IsBetween octets k)
    ⊎ ((slice_index octets k ≡ 42) × (k ≡ 0) × (slice_index octets 1 ≡ 46))

-- no label has more than 63 octets: of 64 octets in a row one is a dot
abbrev pub HasShortLabels : List ℕ → Type 0
HasShortLabels octets =
    (from : ℕ) → from + 64 ≤ length octets
    → (k : ℕ) × (from ≤ k) × (k < from + 64) × (slice_index octets k ≡ 46)

-- letters, digits, hyphens and dots in their places
abbrev pub IsOfLabels : List ℕ → Type 0
IsOfLabels octets = EachIndex octets (λ k. FitsHost octets k) × HasShortLabels octets

abbrev pub HasLengthOfHost : List ℕ → Type 0
HasLengthOfHost octets = (octets ≢ []) × (length octets ≤ 253)

-- a host name of 253 octets at most, whose first label may be an asterisk
abbrev pub IsHostName : List ℕ → Type 0
IsHostName octets = HasLengthOfHost octets × IsOfLabels octets
