use Rattle.schema_types.proofs.TestLemmas.{refuted}
use Rattle.schema_read.proofs.VerdictLemmas.{kept, broken}
use Rattle.schema_read.proofs.constraints.count_rule.Goals as goal

pub returns-then-is_size_allowed : goal.returns-then-is_size_allowed
returns-then-is_size_allowed c = kept (λ r. c.is_size_allowed.ensures.0 c.if-is_size_allowed.true)

pub returns-else-is_size_allowed : goal.returns-else-is_size_allowed
returns-else-is_size_allowed c = broken (λ r. refuted c.is_size_allowed.ensures c.if-is_size_allowed.false)
