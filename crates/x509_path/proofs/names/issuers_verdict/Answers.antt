use Rattle.std.proofs.Common.{subst}
use Rattle.std.proofs.lemmas.List.{take_all}
use Rattle.x509_names.specs.Judgements.{AreJudged}
use Rattle.x509_path.proofs.VerdictLemmas.{judged_more}
use Rattle.x509_path.specs.Names.{HasIssuerVerdict}
use Rattle.x509_path.specs.declared.certificate.PathCertificate.{PathCertificate}
use Rattle.x509_path.proofs.names.issuers_verdict.Goals as goal

pub loop-issuer-preserved : goal.loop-issuer-preserved
loop-issuer-preserved c =
    let issuer = c.issuer-item.result in
    judged_more (λ b w. HasIssuerVerdict c.args.signed.now b.certificate.tbs_certificate w) c.args.issuers.now c.loop-issuer.issuer-index issuer c.loop-issuer.verdict c.issuer_verdict.result c.first_refusal-verdict.result c.loop-issuer-test.true
    c.loop-issuer.invariant
    (subst (λ (b : PathCertificate). HasIssuerVerdict c.args.signed.now b.certificate.tbs_certificate c.issuer_verdict.result) c.issuer-item.is c.issuer_verdict.ensures) c.first_refusal-verdict.ensures

pub returns : goal.returns
returns c =
    subst (λ xs. AreJudged (λ b w. HasIssuerVerdict c.args.signed.now b.certificate.tbs_certificate w) xs c.loop-issuer.verdict) (take_all c.loop-issuer.issuer-index c.args.issuers.now c.loop-issuer-test.false) c.loop-issuer.invariant
