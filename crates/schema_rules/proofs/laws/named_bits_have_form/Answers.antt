use Rattle.schema_rules.proofs.FormLemmas.{named_bits_have_form}
use Rattle.schema_rules.proofs.laws.named_bits_have_form.Goals as goal

pub returns : goal.returns
returns c = named_bits_have_form
