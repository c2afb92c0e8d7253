use Rattle.std.proofs.Common.{arith}
use Rattle.x509_names.proofs.HostLemmas.{labels}
use Rattle.x509_names.proofs.forms.host.has_labels_before.Goals as goal

pub returns-then-name-at-eq46 : goal.returns-then-name-at-eq46
returns-then-name-at-eq46 c = labels c.args.end.now c.args.name.now c.rest.result.now c.is_same_host.result (omega arith) c.if-name-at-eq46.true c.rest.ensures c.is_same_host.ensures
