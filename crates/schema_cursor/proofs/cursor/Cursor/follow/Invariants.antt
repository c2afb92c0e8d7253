use Rattle.schema_cursor.specs.Cursor.{IsAt}
use Rattle.schema_cursor.proofs.cursor.Cursor.follow.Given as goal

abbrev pub invariant-loop : goal.invariant-loop
invariant-loop l = IsAt l.self l.found.index l.found
