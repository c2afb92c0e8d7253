use Rattle.schema_types.proofs.TestLemmas.{refuted}
use Rattle.schema_read.proofs.VerdictLemmas.{kept, broken}
use Rattle.schema_read.proofs.constraints.item_rule.Goals as goal

pub returns-then-is_item : goal.returns-then-is_item
returns-then-is_item c = kept (λ r. c.is_item.ensures.0 c.if-is_item.true)

pub returns-else-is_item : goal.returns-else-is_item
returns-else-is_item c = broken (λ r. refuted c.is_item.ensures c.if-is_item.false)
