use Rattle.std.proofs.Common.{◌≡◌, ◌↔◌, true, All, subst}
use Rattle.x509_lint.proofs.LintLemmas.{keeps_exactly}
use Rattle.x509_lint.specs.CertificateChecks.{Keeps}
use Rattle.x509_lint.specs.declared.rules.TheConstants.{RULES}
use Rattle.x509_lint.proofs.lint.keeps_all_rules.Goals as goal

pub returns : goal.returns
returns c =
    let given = c.findings.result.certificate.now in
    subst (λ x. (c.is_none.result ≡ true) ↔ All (λ r. Keeps r x) RULES) c.findings.ensures.certificate
    (subst (λ rules. (c.is_none.result ≡ true) ↔ All (λ r. Keeps r given) rules) c.findings.ensures.rules
    (keeps_exactly given c.findings.result.rules.now c.next.result c.next.new.self.rules.now c.is_none.result c.is_none.ensures c.next.ensures.steps.1))
