use Rattle.std.proofs.Common.{length}
use Rattle.der_segments.specs.Copied.{CopiesPieces}
use Rattle.der_segments.specs.Segmented.{segmented_pieces}
use Rattle.der_segments.specs.Segments.{pieces_left}
use Rattle.der_segments.proofs.segmented.Segmented.copy_to.Given as goal

-- the pieces before those that are left were copied
abbrev pub invariant-pieces : goal.invariant-pieces
invariant-pieces l = CopiesPieces (segmented_pieces l.self) (pieces_left l.segments) l.at l.fn.buffer l.buffer

abbrev pub decreases-pieces : goal.decreases-pieces
decreases-pieces l = length (pieces_left l.segments)
