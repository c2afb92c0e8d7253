use Rattle.schema_rules.proofs.WrittenUtcLemmas.{utc_times_are_written}
use Rattle.schema_rules.proofs.laws.utc_times_are_written.Goals as goal

pub returns : goal.returns
returns c = utc_times_are_written
