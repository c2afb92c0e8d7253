use Rattle.schema_cursor.specs.Cursor.{IsAt}
use Rattle.schema_cursor.specs.Values.{IsInside}
use Rattle.schema_cursor.proofs.cursor.Cursor.untagged.Given as goal

abbrev pub invariant-loop : goal.invariant-loop
invariant-loop l = record {
  inside : IsInside l.self l.found;
  same : IsAt l.self l.found.index l.found;
}
