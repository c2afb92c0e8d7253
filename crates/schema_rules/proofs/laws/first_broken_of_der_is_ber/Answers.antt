use Rattle.schema_rules.proofs.RuleLemmas.{first_broken_of_der_is_ber}
use Rattle.schema_rules.proofs.laws.first_broken_of_der_is_ber.Goals as goal

pub returns : goal.returns
returns c = first_broken_of_der_is_ber
