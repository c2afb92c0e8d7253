-- An OCTET STRING whose octets, `borrowed_octets`, are borrowed (X.690 8.7).
use Rattle.std.specs.Prelude.{ℕ, List}
use Rattle.std.proofs.Common.{arith}
use Rattle.der_base.specs.declared.tag.Tag.TheVariants.{OctetString}
use Rattle.der_core.specs.Lawful.{IsLawful}
use Rattle.der.specs.BytesRef.{reference_octets}
use Rattle.der.specs.Octets.{IsCounted, TakesOctets, octets_lawful}
use Rattle.der.specs.declared.example.borrowed_octets.BorrowedOctets.{BorrowedOctets}

abbrev pub borrowed_octets : BorrowedOctets → List ℕ
borrowed_octets b = reference_octets b.octets

-- this type is lawful: decoding inverts encoding
pub borrowed_lawful : IsLawful OctetString (TakesOctets IsCounted borrowed_octets)
    (λ b. IsCounted (borrowed_octets b)) borrowed_octets (λ _. 0)
borrowed_lawful = octets_lawful OctetString IsCounted borrowed_octets (omega arith)
