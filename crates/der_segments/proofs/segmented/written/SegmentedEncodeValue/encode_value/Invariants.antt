use Rattle.std.proofs.Common.{length}
use Rattle.der_segments.specs.Segmented.{segmented_pieces}
use Rattle.der_segments.specs.Segments.{pieces_left}
use Rattle.der_segments.specs.Written.{WritesPieces}
use Rattle.der_segments.proofs.segmented.written.SegmentedEncodeValue.encode_value.Given as goal

-- the pieces before those that are left were written
abbrev pub invariant-pieces : goal.invariant-pieces
invariant-pieces g l =
    WritesPieces g.W.Writer.reliable (segmented_pieces l.self) (pieces_left l.segments) (g.W.Writer.state l.fn.writer) (g.W.Writer.state l.writer)

abbrev pub decreases-pieces : goal.decreases-pieces
decreases-pieces g l = length (pieces_left l.segments)
