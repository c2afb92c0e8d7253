use Rattle.schema_types.proofs.TestLemmas.{refuted}
use Rattle.schema_read.proofs.VerdictLemmas.{kept, broken}
use Rattle.schema_read.proofs.constraints.value_rule.Goals as goal

pub returns-then-is_allowed_value : goal.returns-then-is_allowed_value
returns-then-is_allowed_value c = kept (λ r. c.is_allowed_value.ensures.0 c.if-is_allowed_value.true)

pub returns-else-is_allowed_value : goal.returns-else-is_allowed_value
returns-else-is_allowed_value c = broken (λ r. refuted c.is_allowed_value.ensures c.if-is_allowed_value.false)
