use Rattle.std.proofs.Common.{◌≡◌, List, ◌++◌, length, All}
use Rattle.x509_lint.specs.CertificateChecks.{Keeps}
use Rattle.x509_lint.specs.declared.rule.Rule.{Rule}
use Rattle.x509_lint.proofs.lint.LintIterator.next.Given as goal

abbrev pub invariant-loop-self : goal.invariant-loop-self
invariant-loop-self l =
    (l.self.certificate.now ≡ l.fn.self.certificate.now)
    × ((kept : List Rule) × (l.fn.self.rules.now ≡ kept ++ l.self.rules.now) × All (λ r. Keeps r l.fn.self.certificate.now) kept)

abbrev pub decreases-loop-self : goal.decreases-loop-self
decreases-loop-self l = length l.self.rules.now
