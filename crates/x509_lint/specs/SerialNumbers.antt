-- Serial numbers of certificates (RFC 5280, 4.1.2.2): `IsSerialNumber`.
use Rattle.std.specs.Prelude.{◌≡◌, ◌≢◌, ◌≤◌, ℕ, false, List, length, pos}
use Rattle.der_asn1.specs.Integer.{is_negative, signed_octets}

-- the contents of an INTEGER that is neither negative nor zero
abbrev pub IsPositive : List ℕ → Type 0
IsPositive octets = (is_negative octets ≡ false) × (octets ≢ signed_octets (pos 0))

-- the contents of a positive number, of at most 20 octets
abbrev pub IsSerialNumber : List ℕ → Type 0
IsSerialNumber octets = IsPositive octets × (length octets ≤ 20)
