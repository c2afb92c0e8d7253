use Rattle.std.proofs.Common.{length}
use Rattle.schema_cursor.specs.Cursor.{IsAt}
use Rattle.schema_cursor.proofs.cursor.Cursor.at.Given as goal

abbrev pub invariant-loop-rest : goal.invariant-loop-rest
invariant-loop-rest l = IsAt l.self l.found.index l.found

abbrev pub decreases-loop-rest : goal.decreases-loop-rest
decreases-loop-rest l = length l.rest
