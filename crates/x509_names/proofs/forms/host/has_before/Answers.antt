use Rattle.x509_names.proofs.HostLemmas.{ends}
use Rattle.x509_names.proofs.forms.host.has_before.Goals as goal

pub returns-then-name-end : goal.returns-then-name-end
returns-then-name-end c = ends c.args.end.now c.args.name.now c.rest.result.now c.is_same_host.result c.if-name-end.true c.rest.ensures c.is_same_host.ensures
