-- Pieces that are written one after the other (`WritesPieces`).
use Rattle.std.specs.Prelude.{◌≡◌, ℕ, Bool, true, List, ◌++◌, Ok}
use Rattle.der.specs.Prelude.{Writes}
use Rattle.der.specs.Writer.{WriterState, appended_state, write_pieces}
use Rattle.der_segments.specs.Pieces.{joined_pieces}

-- of all pieces these are left, and those before them were written
pub record WritesPieces (reliable : Bool) (all left : List (List ℕ)) (s t : WriterState)
    : Type 0 where
  pub done : List (List ℕ)
  pub split : all ≡ done ++ left
  pub state : t ≡ appended_state s (joined_pieces done)
  pub writes : reliable ≡ true → Writes (write_pieces done s) (Ok tt) t
