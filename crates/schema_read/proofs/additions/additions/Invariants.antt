use Rattle.std.proofs.Common.{◌≡◌, ◌+◌, ◌≤◌, ℕ, length}
use Rattle.schema_read.specs.Components.{AreFrom}
use Rattle.schema_read.specs.Known.{Known}
use Rattle.schema_read.specs.Reading.{Body, Status, Logs}
use Rattle.schema_read.specs.Types.{types_in}
use Rattle.schema_read.specs.Value.{IsValue, IsAny}
use Rattle.schema_read.proofs.additions.additions.Given as goal

abbrev pub invariant-additions : goal.invariant-additions
invariant-additions l = record {
  status : (left : ℕ) (known : Known) → l.index + left ≡ l.node.parts.start + l.node.parts.count → Status l.verdict
      (λ rules. Body l.opened.marked l.opened.beyond.now (AreFrom (IsValue (types_in l.schema.octets.now) l.depth) (IsAny l.depth) rules (types_in l.schema.octets.now) l.node left l.index known) l.rest)
      (λ rules. Body l.opened.marked l.opened.beyond.now (AreFrom (IsValue (types_in l.schema.octets.now) l.depth) (IsAny l.depth) rules (types_in l.schema.octets.now) l.node left l.index known) l.opened.inside.octets.now);
  log : Logs l.verdict l.fn.notes l.notes;
  end : l.notes.end ≡ l.fn.notes.end;
  shorter : length l.rest ≤ length l.opened.inside.octets.now;
}

abbrev pub decreases-additions : goal.decreases-additions
decreases-additions l = length l.rest
