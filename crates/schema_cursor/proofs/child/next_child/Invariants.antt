use Rattle.std.proofs.Common.{◌≡◌, ◌<◌, ◌≤◌, ℕ, Some, slice_get}
use Rattle.schema_read.specs.declared.entry.Entry.{Entry}
use Rattle.schema_cursor.specs.Children.{IsDeeper}
use Rattle.schema_cursor.proofs.child.next_child.Given as goal

abbrev pub invariant-loop-k : goal.invariant-loop-k
invariant-loop-k l = record {
  inside : (j : ℕ) → l.fn.from ≤ j → j < l.k → IsDeeper l.entries l.fn.parent j;
  others : (j : ℕ) (e : Entry) → l.fn.from ≤ j → j < l.k → slice_get l.entries j ≡ Some e → e.parent ≡ l.fn.parent → ⊥;
}
