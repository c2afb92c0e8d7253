use Rattle.std.proofs.Common.{◌≡◌, ℕ, List, ◌-◌, false}
use Rattle.der.specs.Prelude.{rest_of, Same, slice_state}
use Rattle.der_segments.specs.Pieces.{InPieces}
use Rattle.der_segments.proofs.segments.walk.pass_marks.Given as goal

-- no piece was passed
abbrev pub invariant-marks : goal.invariant-marks
invariant-marks l =
    record {
      same : Same (slice_state l.fn.reader) (slice_state l.reader);
      working : (slice_state l.reader).failed ≡ false;
      keeps : (pieces : List (List ℕ)) → InPieces (rest_of (slice_state l.fn.reader)) pieces → InPieces (rest_of (slice_state l.reader)) pieces;
    }

abbrev pub decreases-marks : goal.decreases-marks
decreases-marks l = (slice_state l.reader).end - (slice_state l.reader).position
