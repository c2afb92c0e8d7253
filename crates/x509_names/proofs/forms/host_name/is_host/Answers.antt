use Rattle.x509_names.proofs.CheckLemmas.{and_first, and_with}
use Rattle.x509_names.proofs.forms.host_name.is_host.Goals as goal

pub returns-then-has_octets : goal.returns-then-has_octets
returns-then-has_octets c = and_with c.all_fit.result (c.has_octets.ensures.0 c.if-has_octets.true) c.all_fit.ensures

pub returns-else-has_octets : goal.returns-else-has_octets
returns-else-has_octets c = and_first c.has_octets.result c.if-has_octets.false c.has_octets.ensures
