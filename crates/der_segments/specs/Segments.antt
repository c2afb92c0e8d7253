-- The pieces that an iterator over segments has left (`pieces_left`).
use Rattle.std.specs.Prelude.{ℕ, List}
use Rattle.der_segments.specs.PieceLemmas.{pieces_in}
use Rattle.der_segments.specs.declared.segments.Segments.{Segments}

abbrev pub pieces_left : Segments → List (List ℕ)
pieces_left i = (pieces_in i.left).0
