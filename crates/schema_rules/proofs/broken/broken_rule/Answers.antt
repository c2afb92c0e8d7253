use Rattle.schema_rules.proofs.RuleLemmas.{is_allowed, rules_in_order}
use Rattle.schema_rules.specs.Rules.{rules_of}
use Rattle.schema_rules.proofs.broken.broken_rule.Goals as goal

pub returns-clause-allowed : goal.returns-clause-allowed
returns-clause-allowed c = is_allowed (rules_of c.args.universal) c.rules_of.result.now c.rules_of.ensures (rules_in_order c.args.universal) c.first_broken.result c.args.contents.now c.first_broken.ensures.none c.first_broken.ensures.found
