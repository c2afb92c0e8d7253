use Rattle.schema_rules.proofs.WrittenGeneralizedLemmas.{generalized_times_are_written}
use Rattle.schema_rules.proofs.laws.generalized_times_are_written.Goals as goal

pub returns : goal.returns
returns c = generalized_times_are_written
