use Rattle.schema_types.proofs.TestLemmas.{refuted}
use Rattle.schema_read.proofs.VerdictLemmas.{broken}
use Rattle.schema_read.proofs.bits.named_rule.Goals as goal

pub returns-then-not-has_size_with_zeros : goal.returns-then-not-has_size_with_zeros
returns-then-not-has_size_with_zeros c = broken (λ r p. refuted c.has_size_with_zeros.ensures c.if-not-has_size_with_zeros.true p.0)
