-- The pieces of an OCTET STRING, which are the contents of its primitive segments in order (X.690
-- 8.7.3): `InPieces` finds them in contents without counting levels.
use Rattle.std.specs.Prelude.{◌≡◌, ℕ, ◌^◌, ◌<◌, Bool, true, false, List, [], ◌∷◌, ◌++◌, length}
use Rattle.der.specs.FixedOctets.{indefinite_octet, segments_octet}
use Rattle.der.specs.Length.{length_octets}

-- `0x04`, the identifier octet of a primitive OCTET STRING (8.7.1)
abbrev pub primitive_octet : ℕ
primitive_octet = 4

-- contents are segments with these pieces: end-of-contents octets (8.1.5) and the header of a
-- constructed segment (8.1.3) are passed; a primitive segment is a piece
pub data InPieces : List ℕ → List (List ℕ) → Type 0 where
  nothing : InPieces [] []
  after_end : {more : List ℕ} {pieces : List (List ℕ)} → InPieces more pieces
      → InPieces (0 ∷ 0 ∷ more) pieces
  after_definite : {more : List ℕ} {pieces : List (List ℕ)} (n : ℕ) → n < 2 ^ 32
      → InPieces more pieces → InPieces (segments_octet ∷ (length_octets n ++ more)) pieces
  after_indefinite : {more : List ℕ} {pieces : List (List ℕ)} → InPieces more pieces
      → InPieces (segments_octet ∷ indefinite_octet ∷ more) pieces
  piece : {more : List ℕ} {pieces : List (List ℕ)} (contents : List ℕ) → length contents < 2 ^ 32
      → InPieces more pieces
      → InPieces (primitive_octet ∷ (length_octets (length contents) ++ (contents ++ more)))
      (contents ∷ pieces)

-- the octets of pieces, one piece after the other
abbrev pub joined_pieces : List (List ℕ) → List ℕ
joined_pieces [] = []
joined_pieces (first ∷ pieces) = first ++ joined_pieces pieces

-- contents and their pieces: after a primitive header one piece, after a constructed one those of
-- the segments
abbrev pub ArePieces : Bool → List ℕ → List (List ℕ) → Type 0
ArePieces false octets pieces = pieces ≡ octets ∷ []
ArePieces true octets pieces = InPieces octets pieces

-- contents that have pieces
pub record HasPieces (segmented : Bool) (octets : List ℕ) : Type 0 where
  pub pieces : List (List ℕ)
  pub are_pieces : ArePieces segmented octets pieces
