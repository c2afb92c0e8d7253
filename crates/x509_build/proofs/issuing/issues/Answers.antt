use Rattle.x509_build.proofs.PoolLemmas.{or_right}
use Rattle.x509_build.specs.Pools.{Issues}
use Rattle.x509_build.proofs.issuing.issues.Goals as goal

pub returns-else-certificate_issues : goal.returns-else-certificate_issues
unfolding Issues
returns-else-certificate_issues c =
    or_right _ _ c.certificate_issues.result c.anchor_issues.result c.if-certificate_issues.false c.certificate_issues.ensures c.anchor_issues.ensures
