use Rattle.std.proofs.Common.{take}
use Rattle.x509_names.specs.Judgements.{AreJudged}
use Rattle.x509_path.specs.Names.{HasIssuerVerdict}
use Rattle.x509_path.proofs.names.issuers_verdict.Given as goal

abbrev pub invariant-loop-issuer : goal.invariant-loop-issuer
invariant-loop-issuer l = AreJudged (λ b w. HasIssuerVerdict l.signed b.certificate.tbs_certificate w) (take l.issuer-index l.issuers) l.verdict
