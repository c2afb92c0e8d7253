-- INTEGERs with bounds (X.680 51.4): `range_form` says which contents are those of a number within
-- the bounds.
use Rattle.std.specs.Prelude.{ℕ, ◌&&◌, ◌^◌, ◌≤◌, nat_le, Bool, List}
use Rattle.der_asn1.specs.Integer.{magnitude, unsigned_form}

-- a number from low to high
abbrev pub IsWithin : ℕ → ℕ → ℕ → Type 0
IsWithin low high n = (low ≤ n) × (n ≤ high)

abbrev pub is_within : ℕ → ℕ → ℕ → Bool
is_within low high n = nat_le low n && nat_le n high

-- the contents of a number of 64 bits from low to high
abbrev pub range_form : ℕ → ℕ → List ℕ → Bool
range_form low high octets =
    unsigned_form (2 ^ 64) octets && is_within low high (magnitude octets)
