-- BIT STRINGs with the same bits (X.690 8.6; X.680 22.7).
use Rattle.std.specs.Prelude.{◌≡◌, ◌↔◌, ℕ, zero, suc, ◌<◌, true, List}
use Rattle.der_asn1.specs.NamedBits.{bit_count, has_bit}

-- so many bits, each the same as in another BIT STRING
pub record HasFirstBits (count : ℕ) (text v : List ℕ) : Type 0 where
  pub size : bit_count v ≡ count
  pub bits : (n : ℕ) → n < count → has_bit n v ≡ has_bit n text

-- a bit is there, and is one
abbrev pub IsOneBit : ℕ → List ℕ → Type 0
IsOneBit n octets = (n < bit_count octets) × (has_bit n octets ≡ true)

-- the same bits; with named bits, but for the number of zero bits at the end
abbrev pub AreSameBits : ℕ → List ℕ → List ℕ → Type 0
AreSameBits zero text v = HasFirstBits (bit_count text) text v
AreSameBits (suc names) text v = (n : ℕ) → IsOneBit n v ↔ IsOneBit n text
