-- Addresses, and ranges of them (RFC 5280, 4.2.1.10; RFC 4632, 3.1): `IsAddressWithin`.
use Rattle.std.specs.Prelude.{◌≡◌, ◌≢◌, ◌⊎◌, ◌||◌, ◌==◌, ◌+◌, ◌*◌, ◌/◌, ℕ, Bool, true, List}
use Rattle.std.specs.Prelude.{length, drop, slice_index, EachIndex, bit_and}

-- an address of version 4 or 6, and a range of them: an address and a mask
abbrev pub IsAddress : List ℕ → Type 0
IsAddress octets = (length octets ≡ 4) ⊎ (length octets ≡ 16)

abbrev pub IsRange : List ℕ → Type 0
IsRange octets = (length octets ≡ 8) ⊎ (length octets ≡ 32)

-- an octet that has ones, and zeros after them
abbrev pub is_mask_octet : ℕ → Bool
is_mask_octet o =
    (o == 0) || (o == 128) || (o == 192) || (o == 224) || (o == 240) || (o == 248) || (o == 252)
    || (o == 254) || (o == 255)

-- after an octet with a zero there are zeros alone
abbrev pub FitsMask : List ℕ → ℕ → Type 0
FitsMask mask k =
    (is_mask_octet (slice_index mask k) ≡ true)
    × (slice_index mask k ≢ 255 → slice_index mask (k + 1) ≡ 0)

-- ones, and zeros after them
abbrev pub IsMask : List ℕ → Type 0
IsMask mask = EachIndex mask (λ k. FitsMask mask k)

-- a range "in the style of RFC 4632 (CIDR)": the mask, in the second half, has no ones after a zero
abbrev pub IsCidrRange : List ℕ → Type 0
IsCidrRange base = IsRange base × IsMask (drop (length base / 2) base)

-- an address is the one of the range where the mask has ones
abbrev pub IsAddressWithin : List ℕ → List ℕ → Type 0
IsAddressWithin base name =
    (length base ≡ 2 * length name)
    × EachIndex name (λ k. bit_and (slice_index name k) (slice_index base (k + length name))
    ≡ bit_and (slice_index base k) (slice_index base (k + length name)))
