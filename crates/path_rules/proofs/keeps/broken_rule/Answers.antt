use Rattle.path_rules.proofs.RuleLemmas.{in_all}
use Rattle.path_rules.proofs.keeps.broken_rule.Goals as goal

pub returns : goal.returns
returns c = in_all c.first_broken.result c.args.facts.now c.args.issues c.args.left c.first_broken.ensures
