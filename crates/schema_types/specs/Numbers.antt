-- Numbers in octets, of which the first counts most.
use Rattle.std.specs.Prelude.{ℕ, ℤ, ◌+◌, ◌*◌, List, slice_index}
use Rattle.std.specs.Int.{w64, cast_signed}

-- the number in the four octets from an offset on
unfoldable pub number_at : List ℕ → ℕ → ℕ
number_at octets at =
    slice_index octets at * 16777216 + slice_index octets (at + 1) * 65536
    + slice_index octets (at + 2) * 256 + slice_index octets (at + 3)

-- the signed number in the eight octets from an offset on, in two's complement
abbrev pub signed_at : List ℕ → ℕ → ℤ
signed_at octets at =
    cast_signed w64 (number_at octets at * 4294967296 + number_at octets (at + 4))
