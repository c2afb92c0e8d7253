use Rattle.std.proofs.Common.{◌≡◌, ◌*◌, ◌+◌, ◌≤◌, length}
use Rattle.schema_read.specs.Text.{text_of}
use Rattle.schema_read.specs.Reading.{Logs}
use Rattle.schema_read.specs.Strings.{IsSegment}
use Rattle.schema_read.specs.StringReading.{IsText, MoreAfter, Stage}
use Rattle.schema_read.proofs.strings.+strings.Given as goal

abbrev pub decreases-segment : goal.decreases-segment
decreases-segment l = 3 * l.depth

abbrev pub decreases-segments : goal.decreases-segments
decreases-segments l = 3 * l.depth + 1

abbrev pub decreases-segment_contents : goal.decreases-segment_contents
decreases-segment_contents l = 3 * l.depth + 2

abbrev pub invariant-segments-segments : goal.invariant-segments-segments
invariant-segments-segments l = record {
  stage : Stage l.verdict
      (MoreAfter l.opened.marked l.opened.beyond.now l.bits (IsSegment l.depth l.bits) (text_of l.text) l.rest)
      (MoreAfter l.opened.marked l.opened.beyond.now l.bits (IsSegment l.depth l.bits) (text_of l.fn.text) l.opened.inside.octets.now);
  text : IsText l.bits (text_of l.text);
  log : Logs l.verdict l.fn.notes l.notes;
  end : l.notes.end ≡ l.fn.notes.end;
  shorter : length l.rest ≤ length l.opened.inside.octets.now;
}

abbrev pub decreases-segments-segments : goal.decreases-segments-segments
decreases-segments-segments l = length l.rest
