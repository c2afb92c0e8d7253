-- Pieces that are copied into a buffer one after the other (`CopiesPieces`).
use Rattle.std.specs.Prelude.{◌≡◌, ℕ, List, ◌++◌, drop, length}
use Rattle.der_segments.specs.Pieces.{joined_pieces}

-- of all pieces these are left, and those before them are at the start of the buffer
pub record CopiesPieces (all left : List (List ℕ)) (at : ℕ) (old new : List ℕ) : Type 0 where
  pub done : List (List ℕ)
  pub split : all ≡ done ++ left
  pub counted : at ≡ length (joined_pieces done)
  pub copied : new ≡ joined_pieces done ++ drop at old
