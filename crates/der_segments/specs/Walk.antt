-- Steps of a walk over segments (X.690 8.7.3, 8.1.5): what is next (`IsAtMark`, `IsAtPiece`), and
-- what a step leaves (`KeepsPieces`, `GivesPiece`).
use Rattle.std.specs.Prelude.{◌≡◌, ◌≢◌, ℕ, List, [], ◌∷◌, Result, IsOk}
use Rattle.der.specs.Prelude.{ReaderState, rest_of}
use Rattle.der_segments.specs.Pieces.{InPieces, primitive_octet}

-- end-of-contents octets or the header of a constructed segment are next
pub record IsAtMark (octets : List ℕ) : Type 0 where
  pub first : ℕ
  pub more : List ℕ
  pub split : octets ≡ first ∷ more
  pub other : first ≢ primitive_octet

-- a primitive segment is next, or nothing
pub data IsAtPiece (octets : List ℕ) : Type 0 where
  at_end : octets ≡ [] → IsAtPiece octets
  before_piece : (more : List ℕ) → octets ≡ primitive_octet ∷ more → IsAtPiece octets

-- end-of-contents octets follow their first octet, or the indefinite form follows an identifier
pub data IsShortMark (first : ℕ) (octets : List ℕ) : Type 0 where
  of_end : first ≡ 0 → IsShortMark first octets
  of_indefinite : (more : List ℕ) → octets ≡ 128 ∷ more → IsShortMark first octets

-- a step passes no piece
abbrev pub KeepsPieces : {A E : Type 0} → ReaderState → Result A E → ReaderState → Type 0
KeepsPieces s result t =
    (pieces : List (List ℕ)) → InPieces (rest_of s) pieces
    → IsOk result × InPieces (rest_of t) pieces

-- a piece was the first of these pieces, and the others are left
abbrev pub GivesPiece : List (List ℕ) → List ℕ → ReaderState → Type 0
GivesPiece pieces piece t =
    (others : List (List ℕ)) × (pieces ≡ piece ∷ others) × InPieces (rest_of t) others
