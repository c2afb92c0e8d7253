use Rattle.std.proofs.Common.{◌↔◌, IsTrue, ap, subst, ◌∙◌}
use Rattle.x509.specs.declared.asn1.certificate.Certificate.{Certificate}
use Rattle.x509.specs.declared.asn1.tbs_certificate.TbsCertificate.{TbsCertificate}
use Rattle.x509_build.specs.Pools.{Issues}
use Rattle.x509_path.specs.CertificateFacts.{part}
use Rattle.x509_build.proofs.issuing.issues_last.Goals as goal

pub returns : goal.returns
returns c =
    subst (λ (s : TbsCertificate). IsTrue c.issues.result ↔ Issues c.args.pool.now s c.args.candidate)
    (ap (λ (d : Certificate). d.tbs_certificate) c.certificate-certificate.ensures ∙ ap part c.subject_at.ensures) c.issues.ensures
