use Rattle.schema_types.proofs.TestLemmas.{refuted}
use Rattle.schema_read.proofs.VerdictLemmas.{kept, broken}
use Rattle.schema_read.proofs.constraints.size_rule.Goals as goal

pub returns-then-has_allowed_size : goal.returns-then-has_allowed_size
returns-then-has_allowed_size c = kept (λ r. c.has_allowed_size.ensures.0 c.if-has_allowed_size.true)

pub returns-else-has_allowed_size : goal.returns-else-has_allowed_size
returns-else-has_allowed_size c = broken (λ r. refuted c.has_allowed_size.ensures c.if-has_allowed_size.false)
