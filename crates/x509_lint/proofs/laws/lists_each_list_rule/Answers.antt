use Rattle.x509_lint.proofs.ListRuleLemmas.{listed_of_list}
use Rattle.x509_lint.proofs.laws.lists_each_list_rule.Goals as goal

pub returns-clause-each : goal.returns-clause-each
returns-clause-each c r = listed_of_list r
