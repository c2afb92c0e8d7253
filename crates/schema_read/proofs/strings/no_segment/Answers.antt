use Rattle.schema_read.proofs.VerdictLemmas.{logs_is, logs_then}
use Rattle.schema_read.proofs.strings.no_segment.Goals as goal

pub returns-clause-log : goal.returns-clause-log
returns-clause-log c =
    logs_is c.and.ensures (logs_then c.in_ok-verdict.ensures.log c.in_ok-outcome.ensures.log)
