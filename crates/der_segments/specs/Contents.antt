-- The contents octets of an OCTET STRING (X.690 8.7), primitive or in segments: `Contains` says
-- which octets they contain, `contents_pieces` are their pieces.
use mathlib.Core.Logic.{∥∥₁_map}
use Rattle.std.specs.Prelude.{◌≡◌, ℕ, Bool, true, false, List, [], ◌∷◌, length}
use Rattle.std.proofs.Common.{refl}
use Rattle.der.specs.Joined.{Joined}
use Rattle.der.specs.Prelude.{OctetString}
use Rattle.der_segments.specs.Pieces.{HasPieces}
use Rattle.der_segments.specs.PieceLemmas.{pieces_in, pieces_of_joined}

-- contents contain octets: after a primitive header they are these octets (8.7.2); after a
-- constructed one they are segments, which are joined to these octets (8.7.3)
abbrev pub Contains : Bool → ℕ → List ℕ → List ℕ → Type 0
Contains false levels octets out = out ≡ octets
Contains true levels octets out = Joined OctetString levels octets out

-- contents contain this many octets
pub record IsContents (segmented : Bool) (octets : List ℕ) (count : ℕ) : Type 0 where
  pub levels : ℕ
  pub out : List ℕ
  pub contains : Contains segmented levels octets out
  pub counted : length out ≡ count

pub has_pieces : (segmented : Bool) (levels : ℕ) (octets out : List ℕ)
    → Contains segmented levels octets out → HasPieces segmented octets
has_pieces false levels octets out h = record { pieces = octets ∷ []; are_pieces = refl }
has_pieces true levels octets out h =
    let r = pieces_of_joined h in record { pieces = r.0; are_pieces = r.1 }

-- the pieces of contents
abbrev pub contents_pieces : {segmented : Bool} {octets : List ℕ} {count : ℕ}
    → ∥ IsContents segmented octets count ∥₁ → List (List ℕ)
contents_pieces {segmented} {octets} t =
    (pieces_in (∥∥₁_map t (λ c. has_pieces segmented c.levels octets c.out c.contains))).0
