use Rattle.x509_lint.proofs.LintLemmas.{all_given}
use Rattle.x509_lint.proofs.laws.gives_all_findings.Goals as goal

pub returns : goal.returns
returns c lint findings drains = all_given findings lint drains.1.0 drains.0 drains.1.1 drains.1.2
