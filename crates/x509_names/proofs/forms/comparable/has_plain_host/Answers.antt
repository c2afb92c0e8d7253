use Rattle.x509_names.proofs.CheckLemmas.{and_first, and_with, moved}
use Rattle.x509_names.specs.Comparable.{IsPlainHost}
use Rattle.x509_names.proofs.forms.comparable.has_plain_host.Goals as goal

pub returns-then-has_domain_name : goal.returns-then-has_domain_name
returns-then-has_domain_name c = and_with c.is_plain_host.result (c.has_domain_name.ensures.0 c.if-has_domain_name.true) (moved IsPlainHost _ _ c.is_plain_host.result c.host_of.ensures c.is_plain_host.ensures)

pub returns-else-has_domain_name : goal.returns-else-has_domain_name
returns-else-has_domain_name c = and_first c.has_domain_name.result c.if-has_domain_name.false c.has_domain_name.ensures
