use Rattle.schema_types.proofs.TestLemmas.{refuted}
use Rattle.schema_read.proofs.VerdictLemmas.{kept, broken}
use Rattle.schema_read.proofs.alphabet.text_rule.Goals as goal

pub returns-then-not-has_allowed_size : goal.returns-then-not-has_allowed_size
returns-then-not-has_allowed_size c = broken (λ r p. refuted c.has_allowed_size.ensures c.if-not-has_allowed_size.true p.0)

pub returns-then-not-are_codes_allowed : goal.returns-then-not-are_codes_allowed
returns-then-not-are_codes_allowed c = broken (λ r p. refuted c.are_codes_allowed.ensures c.if-not-are_codes_allowed.true p.1)

pub returns : goal.returns
returns c = kept (λ r. (c.has_allowed_size.ensures.0 c.if-not-has_allowed_size.false, c.are_codes_allowed.ensures.0 c.if-not-are_codes_allowed.false))
