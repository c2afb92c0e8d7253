use Rattle.std.proofs.Common.{◌≡◌, drop}
use Rattle.schema_read.specs.Members.{is_seen}
use Rattle.schema_read.proofs.members.is_seen.Given as goal

abbrev pub invariant-loop-field : goal.invariant-loop-field
invariant-loop-field l = is_seen l.seen l.index ≡ is_seen (drop l.field-index l.seen) l.index
