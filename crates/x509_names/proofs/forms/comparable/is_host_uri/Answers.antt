use Rattle.x509_names.proofs.CheckLemmas.{and_first, and_with}
use Rattle.x509_names.proofs.forms.comparable.is_host_uri.Goals as goal

pub returns-then-is_uri : goal.returns-then-is_uri
returns-then-is_uri c = and_with c.has_plain_host.result (c.is_uri.ensures.0 c.if-is_uri.true) c.has_plain_host.ensures

pub returns-else-is_uri : goal.returns-else-is_uri
returns-else-is_uri c = and_first c.is_uri.result c.if-is_uri.false c.is_uri.ensures
