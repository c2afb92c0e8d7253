use Rattle.schema_cursor.specs.Values.{same, inner}
use Rattle.schema_cursor.proofs.CursorLemmas.{at_itself, at_again}
use Rattle.schema_cursor.proofs.cursor.Cursor.untagged.Goals as goal

pub loop-init : goal.loop-init
loop-init c = record { inside = same; same = at_itself c.args.self }

pub loop-preserved : goal.loop-preserved
loop-preserved c = record {
  inside = inner c.in-Some.inner c.loop.invariant.inside c.in-Some.ensures.0 c.in-Some.ensures.1 c.in-Some.ensures.2;
  same = at_again c.loop.invariant.same c.in-Some.ensures.1;
}
