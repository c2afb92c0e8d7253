use Rattle.schema_rules.proofs.FormLemmas.{contents_have_forms}
use Rattle.schema_rules.proofs.laws.contents_have_forms.Goals as goal

pub returns : goal.returns
returns c = contents_have_forms
