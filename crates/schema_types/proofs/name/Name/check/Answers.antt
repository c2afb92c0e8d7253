use Rattle.std.proofs.Common.{subst}
use Rattle.schema_types.specs.Pool.{IsText}
use Rattle.schema_types.specs.Name.{no_name}
use Rattle.schema_types.specs.declared.span.Span.{Span}
use Rattle.schema_types.proofs.TestLemmas.{refuted}
use Rattle.schema_types.proofs.name.Name.check.Goals as goal

pub returns-then-not-is_text-clause-fault : goal.returns-then-not-is_text-clause-fault
returns-then-not-is_text-clause-fault c =
    rw c.new.ensures (no_name (subst (λ (s : Span). IsText c.args.pool.now s → ⊥) c.read.ensures (refuted c.is_text.ensures c.if-not-is_text.true)))
