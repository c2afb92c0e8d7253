-- Borrowed byte strings: `reference_octets` are the octets of a `BytesRef`.
use Rattle.std.specs.Prelude.{ℕ, List}
use Rattle.der.specs.declared.bytes.reference.BytesRef.{BytesRef}

abbrev pub reference_octets : BytesRef → List ℕ
reference_octets b = b.bytes.now
