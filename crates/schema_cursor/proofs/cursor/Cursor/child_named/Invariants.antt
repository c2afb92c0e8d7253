use Rattle.std.proofs.Common.{◌+◌, ◌<◌, ◌≤◌, ◌-◌, ℕ, length}
use Rattle.schema_read.specs.Types.{types_in}
use Rattle.schema_cursor.specs.Children.{IsChild}
use Rattle.schema_cursor.specs.Names.{IsNamedChild}
use Rattle.schema_cursor.proofs.cursor.Cursor.child_named.Given as goal

abbrev pub invariant-loop-index : goal.invariant-loop-index
invariant-loop-index l = record {
  before : (k : ℕ) → IsNamedChild (types_in l.self.schema.now.octets.now) l.self.entries.now l.self.index l.name k → l.from ≤ k;
  after : (k : ℕ) → IsChild l.self.entries.now l.self.index l.from k → IsChild l.self.entries.now l.self.index (l.self.index + 1) k;
  start : l.self.index < l.from;
}

abbrev pub decreases-loop-index : goal.decreases-loop-index
decreases-loop-index l = length l.self.entries.now - l.from
