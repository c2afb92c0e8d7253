use Rattle.std.proofs.Common.{◌≡◌, ◌↔◌, ◌⊎◌, ◌<◌, ◌≤◌, ℕ, true}
use Rattle.der_base.specs.declared.encoding_rules.EncodingRules.{EncodingRules}
use Rattle.schema_types.specs.Tags.{IsFieldOf}
use Rattle.schema_types.specs.declared.field.Field.{Field}
use Rattle.schema_read.specs.Components.{MayBeAbsent}
use Rattle.schema_read.specs.Members.{is_seen}
use Rattle.schema_read.specs.Reading.{Logs}
use Rattle.schema_read.specs.Types.{types_in}
use Rattle.schema_read.specs.Verdict.{holds}
use Rattle.schema_read.proofs.members.judge_present.Given as goal

abbrev pub invariant-loop-k : goal.invariant-loop-k
invariant-loop-k l = record {
  low : l.fn.node.parts.start ≤ l.k;
  exact : (rules : EncodingRules) → (holds rules l.verdict ≡ true)
      ↔ ((k : ℕ) (f : Field) → k < l.k → IsFieldOf (types_in l.schema.octets.now) l.fn.node k f
      → MayBeAbsent f ⊎ (is_seen l.seen k ≡ true));
  log : Logs l.verdict l.fn.notes l.notes;
  end : l.notes.end ≡ l.fn.notes.end;
}
