use Rattle.path_rules.proofs.AskedLemmas.{allowed_exists}
use Rattle.path_rules.proofs.GrowthLemmas.{via}
use Rattle.path_rules.proofs.asked.has_allowed_nodes.Goals as goal

pub returns : goal.returns
returns c = via c.is_any_allowed.ensures (allowed_exists c.args.nodes.now)
