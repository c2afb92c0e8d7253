use Rattle.std.proofs.Common.{◌↔◌, IsTrue, subst}
use Rattle.x509_build.specs.Pools.{IsAt, IsSame}
use Rattle.x509_path.specs.declared.certificate.PathCertificate.{PathCertificate}
use Rattle.x509_build.proofs.issuing.is_at.Goals as goal

pub returns : goal.returns
unfolding IsAt
returns c =
    subst (λ (d : PathCertificate). IsTrue c.is_same.result ↔ IsSame c.args.certificate.now d) c.certificate_at.ensures c.is_same.ensures
