use Rattle.std.proofs.Common.{◌≡◌, ◌*◌, ◌+◌, ◌≤◌, ℕ, List, false, length}
use Rattle.schema_read.specs.Items.{IsAnyCount, SomeItems}
use Rattle.schema_read.specs.Value.{IsAny}
use Rattle.schema_read.specs.Reading.{Body, Status, Logs}
use Rattle.schema_read.proofs.ItemLemmas.{Items}
use Rattle.schema_read.proofs.untyped.+untyped.Given as goal

abbrev pub decreases-any : goal.decreases-any
decreases-any l = 3 * l.depth

abbrev pub decreases-elements : goal.decreases-elements
decreases-elements l = 3 * l.depth + 1

abbrev pub decreases-unknown_contents : goal.decreases-unknown_contents
decreases-unknown_contents l = 3 * l.depth + 2

abbrev pub invariant-elements-elements : goal.invariant-elements-elements
invariant-elements-elements l = record {
  status : (before : List ℕ) × Status l.verdict
      (λ rules. Body l.opened.marked l.opened.beyond.now (Items false rules (IsAny l.depth rules) IsAnyCount before) l.rest)
      (λ rules. Body l.opened.marked l.opened.beyond.now (SomeItems false rules (IsAny l.depth rules) IsAnyCount) l.opened.inside.octets.now);
  log : Logs l.verdict l.fn.notes l.notes;
  end : l.notes.end ≡ l.fn.notes.end;
  shorter : length l.rest ≤ length l.opened.inside.octets.now;
}

abbrev pub decreases-elements-elements : goal.decreases-elements-elements
decreases-elements-elements l = length l.rest
