use Rattle.std.proofs.Common.{subst}
use Rattle.x509_lint.proofs.LintLemmas.{pass_on}
use Rattle.x509_lint.specs.CertificateChecks.{Keeps}
use Rattle.x509_lint.specs.declared.rule.Rule.TheVariants.{VersionFields}
use Rattle.x509_lint.proofs.lint.LintIterator.next.Goals as goal

pub loop-self-preserved : goal.loop-self-preserved
loop-self-preserved c =
    let same = c.loop-self.invariant.0 in (
      same,
      pass_on (λ r. Keeps r c.args.self.now.certificate.now) _ c.loop-self.self.rules.now VersionFields c.in-len1-up.len_at_least
          (subst (Keeps _) same c.in_default-broken_at.ensures) c.loop-self.invariant.1,
    )
