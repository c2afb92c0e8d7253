use Rattle.x509_lint.proofs.RuleLemmas.{listed}
use Rattle.x509_lint.proofs.laws.lists_each_rule.Goals as goal

pub returns-clause-each : goal.returns-clause-each
returns-clause-each c r = listed r
