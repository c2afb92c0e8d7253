use Rattle.std.proofs.Common.{◌≤◌, ℕ, subst, length}
use Rattle.schema_types.specs.Span.{IsWithin}
use Rattle.schema_types.specs.OpenType.{no_identifier, no_type}
use Rattle.schema_types.specs.declared.span.Span.{Span}
use Rattle.schema_types.proofs.TestLemmas.{refuted}
use Rattle.schema_types.proofs.open_type.OpenType.check.Goals as goal

pub returns-then-not-is_within-clause-fault : goal.returns-then-not-is_within-clause-fault
returns-then-not-is_within-clause-fault c =
    rw c.new.ensures (no_identifier (subst (λ (s : Span). IsWithin s (length c.args.pool.now) → ⊥) c.read.ensures (refuted c.is_within.ensures c.if-not-is_within.true)))

pub returns-then-number_at-counts-clause-fault : goal.returns-then-number_at-counts-clause-fault
returns-then-number_at-counts-clause-fault c =
    rw c.new-then-number_at-counts.ensures (no_type (subst (λ (n : ℕ). c.args.counts.nodes ≤ n) c.number_at.ensures c.if-number_at-counts.true))
