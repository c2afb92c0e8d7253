use Rattle.x509_names.proofs.CheckLemmas.{and_first, and_with}
use Rattle.x509_names.proofs.forms.host_name.is_host_name.Goals as goal

pub returns-then-has_length_of_host : goal.returns-then-has_length_of_host
returns-then-has_length_of_host c = and_with c.is_of_labels.result (c.has_length_of_host.ensures.0 c.if-has_length_of_host.true) c.is_of_labels.ensures

pub returns-else-has_length_of_host : goal.returns-else-has_length_of_host
returns-else-has_length_of_host c = and_first c.has_length_of_host.result c.if-has_length_of_host.false c.has_length_of_host.ensures
