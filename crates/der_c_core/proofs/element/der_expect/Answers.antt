use Rattle.der_c_core.proofs.MeetLemmas.{expects_met, expects_other, expects_error}
use Rattle.der_c_core.proofs.element.der_expect.Goals as goal

pub returns-then-met-tag-clause-reads : goal.returns-then-met-tag-clause-reads
returns-then-met-tag-clause-reads c = expects_met c.in-Ok.ensures.meets c.if-met-tag.true

pub returns-else-met-tag-clause-reads : goal.returns-else-met-tag-clause-reads
returns-else-met-tag-clause-reads c = expects_other c.in-Ok.ensures.meets c.if-met-tag.false c.refuse_tag.ensures.refuses

pub returns-in-Err-clause-reads : goal.returns-in-Err-clause-reads
returns-in-Err-clause-reads c = expects_error c.in-Err.ensures.meets
