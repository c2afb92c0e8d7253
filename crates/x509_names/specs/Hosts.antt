-- Host names compared (RFC 5280, 7.2), and whether one is at or below another (4.2.1.10):
-- `IsSameHost`, `IsBelowHost` for a dNSName, `IsHostWithin` for the host of a URI or of a mailbox.
use Rattle.std.specs.Prelude.{◌≡◌, ◌≢◌, ◌⊎◌, ◌&&◌, ◌||◌, ◌==◌, ◌++◌, ℕ, Bool, false, true, List, [], ◌∷◌}
use Rattle.std.specs.Prelude.{if◌then◌else◌, nat_lt, slice_index, EachIndex, SomeIndex}
use Rattle.std.specs.Str.{str_to_ascii_lowercase}

-- the same octets, but for the case of letters of ASCII
abbrev pub IsSameHost : List ℕ → List ℕ → Type 0
IsSameHost first second = str_to_ascii_lowercase first ≡ str_to_ascii_lowercase second

-- a name ends with others octets, and has more before them
abbrev pub HasBefore : List ℕ → List ℕ → Type 0
HasBefore end name =
    (front : List ℕ) × (rest : List ℕ) × (name ≡ front ++ rest) × (front ≢ []) × IsSameHost rest end

-- a name begins with a dot
abbrev pub begins_with_dot : List ℕ → Bool
begins_with_dot [] = false
begins_with_dot (o ∷ os) = o == 46

-- a base with a dot before it, which it may have already
abbrev pub with_dot : List ℕ → List ℕ
with_dot base = if begins_with_dot base then base else 46 ∷ base

-- one label or more is added on the left of a base. Of a base that begins with a dot the RFC says
-- nothing: here a label is added before the dot. All names are no octets with labels added
abbrev pub HasMoreLabels : List ℕ → List ℕ → Type 0
HasMoreLabels base name = (base ≡ []) ⊎ HasBefore (with_dot base) name

-- zero or more labels are added on the left of a host name
abbrev pub IsBelowHost : List ℕ → List ℕ → Type 0
IsBelowHost base name = IsSameHost name base ⊎ HasMoreLabels base name

-- the host of a URI or a mailbox: a domain, which begins with a dot, or one host
abbrev pub IsHostWithin : List ℕ → List ℕ → Type 0
IsHostWithin base name =
    ((begins_with_dot base ≡ true) × HasBefore base name)
    ⊎ ((begins_with_dot base ≡ false) × IsSameHost name base)

-- a letter of ASCII, and an octet of a host name
abbrev pub is_letter : ℕ → Bool
is_letter o = nat_lt 64 o && nat_lt o 91 || nat_lt 96 o && nat_lt o 123

abbrev pub is_host_octet : ℕ → Bool
is_host_octet o = is_letter o || nat_lt 47 o && nat_lt o 58 || (o == 45) || (o == 46)

-- a host name, and no address of version 4, which has no letter
abbrev pub IsDomainName : List ℕ → Type 0
IsDomainName octets =
    EachIndex octets (λ k. is_host_octet (slice_index octets k) ≡ true)
    × SomeIndex octets (λ k. is_letter (slice_index octets k) ≡ true)
