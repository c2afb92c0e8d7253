-- Integers as numbers: digits in base 256, in two's complement (X.690 8.3). `integer_octets` and
-- `signed_octets` are the contents of a number; `signed_form` and `unsigned_form` decide whether
-- contents are those of a number below a limit.
use Rattle.std.specs.Prelude.{ℕ, ◌-◌, ◌&&◌, not, Bool, true, false, nat_lt, List, [], ◌∷◌, map}
use Rattle.std.specs.Prelude.{ℤ, pos, negsuc, if◌then◌else◌}
use Rattle.std.specs.Int.Digits.{digits_of, number_from_digits}
use Rattle.der_asn1.specs.Forms.{integer_form}

-- the digits of a non-negative number, as contents: at least one octet, and the first bit is zero
-- (8.3.3)
abbrev pub with_first_bit : List ℕ → List ℕ
with_first_bit [] = 0 ∷ []
with_first_bit (o ∷ os) = if nat_lt o 128 then o ∷ os else 0 ∷ o ∷ os

-- an octet, with all bits inverted if the number is negative
abbrev pub turned : Bool → ℕ → ℕ
turned negative o = if negative then 255 - o else o

-- the contents of n, or of -1 - n if negative, whose bits are those of n inverted
abbrev pub integer_octets : Bool → ℕ → List ℕ
integer_octets negative n = map (turned negative) (with_first_bit (digits_of 256 n))

abbrev pub signed_octets : ℤ → List ℕ
signed_octets (pos n) = integer_octets false n
signed_octets (negsuc n) = integer_octets true n

-- whether the first bit of the octets is the sign bit for `negative`
abbrev pub has_sign : Bool → List ℕ → Bool
has_sign negative [] = false
has_sign negative (o ∷ os) = if negative then not (nat_lt o 128) else nat_lt o 128

-- whether the contents are those of a negative number: the first bit is one
abbrev pub is_negative : List ℕ → Bool
is_negative [] = false
is_negative (o ∷ os) = not (nat_lt o 128)

-- the n of contents that encode the number n, or the negative number -1 - n
abbrev pub magnitude : List ℕ → ℕ
magnitude octets = number_from_digits 256 (map (turned (is_negative octets)) octets)

-- whether the contents are those of a number from -limit to limit - 1, and from 0 to limit - 1
abbrev pub signed_form : ℕ → List ℕ → Bool
signed_form limit octets = integer_form octets && nat_lt (magnitude octets) limit

abbrev pub unsigned_form : ℕ → List ℕ → Bool
unsigned_form limit octets = not (is_negative octets) && signed_form limit octets
