use Rattle.std.proofs.Common.{◌≡◌, ◌++◌, true, List, ℕ, length}
use Rattle.der_asn1.specs.Alphabets.{bmp_form}
use Rattle.std.specs.Fmt.{HasWritten, IsPlainFormatter}
use Rattle.std.specs.Str.{encode_utf8_all}
use Rattle.x509.specs.Text.{bmp_characters}
use Rattle.x509.proofs.text.bmp.write_bmp.Given as goal

-- the characters that were written, and those of the octets that are left
abbrev pub invariant-codes : goal.invariant-codes
invariant-codes g l = (bmp_form l.rest ≡ true)
    × ((written : List ℕ) × (written ++ bmp_characters l.rest ≡ bmp_characters l.fn.string.octets.now)
    × (IsPlainFormatter l.initial.f → HasWritten g.W.Write.write_str_gives l.initial.f (encode_utf8_all written) l.f))

abbrev pub decreases-codes : goal.decreases-codes
decreases-codes g l = length l.rest
