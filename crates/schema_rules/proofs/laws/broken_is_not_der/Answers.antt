use Rattle.schema_rules.proofs.RuleLemmas.{broken_is_not_der}
use Rattle.schema_rules.proofs.laws.broken_is_not_der.Goals as goal

pub returns : goal.returns
returns c = broken_is_not_der
