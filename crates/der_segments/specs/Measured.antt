-- Segments that are read without being copied (X.690 8.7.3): `Measures` counts the octets that they
-- are joined to.
use Rattle.std.specs.Prelude.{◌≡◌, ℕ, false, List, length}
use Rattle.der.specs.Decode.{is_out_of_memory_kind}
use Rattle.der.specs.Joined.{Joined}
use Rattle.der.specs.Joining.{levels_left}
use Rattle.der.specs.Prelude.{Error, OctetString, ReaderState, Reads, kind_of}

-- segments are read, which are joined to n octets
pub record Measures (s : ReaderState) (n : ℕ) (t : ReaderState) : Type 0 where
  pub octets : List ℕ
  pub out : List ℕ
  pub reads : Reads s t octets
  pub joined : Joined OctetString (levels_left s) octets out
  pub counted : n ≡ length out

-- an error does not report a failed allocation
abbrev pub NotMemory : Error → Type 0
NotMemory e = is_out_of_memory_kind (kind_of e) ≡ false
