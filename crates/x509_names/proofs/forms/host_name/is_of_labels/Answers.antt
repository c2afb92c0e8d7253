use Rattle.x509_names.proofs.CheckLemmas.{and_first, and_with}
use Rattle.x509_names.proofs.forms.host_name.is_of_labels.Goals as goal

pub returns-then-all_fit : goal.returns-then-all_fit
returns-then-all_fit c = and_with c.has_short_labels.result (c.all_fit.ensures.0 c.if-all_fit.true) c.has_short_labels.ensures

pub returns-else-all_fit : goal.returns-else-all_fit
returns-else-all_fit c = and_first c.all_fit.result c.if-all_fit.false c.all_fit.ensures
