-- Byte strings that are borrowed (`IsBorrowedOctets`) or owned: `cow_octets` are the octets of a
-- `BytesCow`.
use Rattle.std.specs.Prelude.{ℕ, List}
use Rattle.der.specs.BytesRef.{reference_octets}
use Rattle.der.specs.BytesOwned.{owned_octets}
use Rattle.der.specs.declared.bytes.cow.BytesCow.{BytesCow}
use Rattle.der.specs.declared.bytes.cow.BytesCow.TheVariants.{Borrowed, Owned}

abbrev pub cow_octets : BytesCow → List ℕ
cow_octets (Borrowed b) = reference_octets b
cow_octets (Owned b) = owned_octets b

abbrev pub IsBorrowedOctets : BytesCow → Type 0
IsBorrowedOctets (Borrowed b) = Unit {0}
IsBorrowedOctets (Owned b) = ⊥
