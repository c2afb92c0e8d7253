use Rattle.schema_rules.proofs.FormLemmas.{times_without_fraction_have_form}
use Rattle.schema_rules.proofs.laws.times_without_fraction_have_form.Goals as goal

pub returns : goal.returns
returns c = times_without_fraction_have_form
