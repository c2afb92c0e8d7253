use Rattle.std.proofs.Common.{◌↔◌, ◌+◌, ◌-◌, ℕ, length}
use Rattle.schema_cursor.specs.Children.{IsNthChild}
use Rattle.schema_cursor.proofs.cursor.Cursor.item.Given as goal

abbrev pub invariant-loop-index : goal.invariant-loop-index
invariant-loop-index l =
    (k : ℕ) → IsNthChild l.self.entries.now l.self.index l.left l.from k ↔ IsNthChild l.self.entries.now l.self.index l.fn.number (l.self.index + 1) k

abbrev pub decreases-loop-index : goal.decreases-loop-index
decreases-loop-index l = length l.self.entries.now - l.from
