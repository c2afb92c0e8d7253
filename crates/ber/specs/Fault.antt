-- Why octets do not begin with a header (X.690 8.1.2, 8.1.3): `IsFault`, by the faults of a tag
-- number and of a length.
use Rattle.std.specs.Prelude.{◌≡◌, ℕ, ◌+◌, ◌/◌, ◌%◌, ◌^◌, ◌<◌, ◌≤◌, Bool, false, List, [], ◌∷◌, ◌++◌, length}
use Rattle.std.specs.Int.Digits.{digits_of, number_from_digits}
use Rattle.der_base.specs.FixedOctets.{high_number, long_form, indefinite_octet}
use Rattle.der_base.specs.Tag.{Label}
use Rattle.ber.specs.Identifier.{identifier_octets, continued_digits}
use Rattle.ber.specs.declared.fault.Fault.{Fault}
use Rattle.ber.specs.declared.fault_kind.FaultKind.{FaultKind}
use Rattle.ber.specs.declared.fault_kind.FaultKind.TheVariants.{Truncated, TagNumberPadded, TagNumberTooSmall, TagNumberTooLarge, LengthReserved, LengthTooLarge, PrimitiveIndefinite}

abbrev pub fault_at : FaultKind → ℕ → Fault
fault_at kind offset = record { kind = kind; offset = offset }

-- octets that end at an offset, of a header that needs at least so many
abbrev pub truncated_at : ℕ → ℕ → Fault
truncated_at offset needed = fault_at (Truncated needed) offset

-- why octets after a first identifier octet do not begin with a tag number: they end within one; its
-- first octet is `0x80` (8.1.2.4.2 c); it is below 31 (8.1.2.2); or from its digits so far on it has
-- more than 32 bits
pub data IsNumberFault : List ℕ → Fault → Type 0 where
  ends : (n : ℕ) → n < 2 ^ 25
      → IsNumberFault (continued_digits (digits_of 128 n))
      (truncated_at (1 + length (digits_of 128 n)) (3 + length (digits_of 128 n)))
  padded : (rest : List ℕ) → IsNumberFault (128 ∷ rest) (fault_at TagNumberPadded 1)
  small : (n : ℕ) (rest : List ℕ) → n < high_number
      → IsNumberFault (n ∷ rest) (fault_at TagNumberTooSmall 1)
  large : (n : ℕ) (rest : List ℕ) → 2 ^ 25 ≤ n → n / 128 < 2 ^ 25
      → IsNumberFault (continued_digits (digits_of 128 n) ++ rest)
      (fault_at TagNumberTooLarge (length (digits_of 128 n)))

-- why octets at an offset do not begin with a length: there are none, or fewer than the first
-- announces; the first is `0xFF` (8.1.3.5 c); the length has more than 32 bits; or it is indefinite
-- after a primitive identifier (8.1.3.2 a)
pub data IsLengthFault (constructed : Bool) (at : ℕ) : List ℕ → Fault → Type 0 where
  nothing : IsLengthFault constructed at [] (truncated_at at (at + 1))
  few : (k : ℕ) (ds : List ℕ) → 1 ≤ k → k ≤ 126 → length ds < k
      → IsLengthFault constructed at (long_form k ∷ ds)
      (truncated_at (at + 1 + length ds) (at + 1 + k))
  reserved : (rest : List ℕ)
      → IsLengthFault constructed at (long_form 127 ∷ rest) (fault_at LengthReserved at)
  too_large : (ds rest : List ℕ) → 1 ≤ length ds → length ds ≤ 126
      → 2 ^ 32 ≤ number_from_digits 256 ds
      → IsLengthFault constructed at (long_form (length ds) ∷ (ds ++ rest))
      (fault_at LengthTooLarge at)
  primitive : constructed ≡ false → (rest : List ℕ)
      → IsLengthFault constructed at (indefinite_octet ∷ rest) (fault_at PrimitiveIndefinite at)

-- why octets do not begin with a header: there are none; the first one announces a tag number, and
-- none follows; or no length follows the identifier
pub data IsFault : List ℕ → Fault → Type 0 where
  no_octets : IsFault [] (truncated_at 0 2)
  no_number : {s : List ℕ} {f : Fault} (o : ℕ) → o < 256 → o % 32 ≡ high_number
      → IsNumberFault s f → IsFault (o ∷ s) f
  no_length : {more : List ℕ} {f : Fault} (l : Label) → l.number < 2 ^ 32
      → IsLengthFault l.constructed (length (identifier_octets l)) more f
      → IsFault (identifier_octets l ++ more) f
