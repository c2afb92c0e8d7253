-- Octets borrowed from the input.
use Rattle.std.specs.Prelude.{◌≡◌, ℕ, List, length, Result, Ok}
use Rattle.std.proofs.Common.{arith}
use Rattle.der.specs.Prelude.{checked_length, Head, byte_order, Length, OctetString, number, Error, EncodingRules, ReaderState, Gives, map_ok, read_slice_outcome, Compared, WriterAnswer, IsLawful, Writes, write_outcome}
use Rattle.example_calls.specs.declared.my_octets.MyOctets.{MyOctets}

abbrev pub my_octets_contents : MyOctets → List ℕ
my_octets_contents my_octets = my_octets.octets.now

abbrev pub IsMyOctets : MyOctets → Type 0
IsMyOctets my_octets = Unit {0}

-- any contents are accepted, and borrowed unchanged
abbrev pub AcceptsMyOctets : MyOctets → EncodingRules → Head → List ℕ → Type 0
AcceptsMyOctets my_octets rules h octets = my_octets_contents my_octets ≡ octets

abbrev pub MyOctetsRead : Head → ReaderState → Result MyOctets Error → ReaderState → Type 0
MyOctetsRead h s result t =
    Gives (read_slice_outcome (number h.length)) s (map_ok my_octets_contents result) t

-- the number of octets, and the result of writing
abbrev pub my_octets_size : MyOctets → Result Length Error
my_octets_size my_octets = checked_length (length (my_octets_contents my_octets))

abbrev pub MyOctetsWritten : MyOctets → WriterAnswer
MyOctetsWritten my_octets s result t = Writes
    (write_outcome (my_octets_contents my_octets) s) result t

-- borrowed octets are compared octet by octet, which never fails
abbrev pub my_octets_order : MyOctets → MyOctets → Compared
my_octets_order v w = Ok (byte_order (my_octets_contents v) (my_octets_contents w))

-- borrowed octets are read exactly as they are written
pub my_octets_lawful : IsLawful OctetString AcceptsMyOctets IsMyOctets my_octets_contents (λ _. 0)
my_octets_lawful =
    record {
      exact = λ octets my_octets short. (λ h. (tt, h), λ h. h.1);
      shallow = omega arith;
      numbered = omega arith;
    }
