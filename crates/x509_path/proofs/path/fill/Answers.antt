use Rattle.std.proofs.Common.{subst, take, ◌∙◌, arith}
use Rattle.x509_path.proofs.PathLemmas.{facts_all, facts_more}
use Rattle.x509_path.specs.CertificateFacts.{AreFacts}
use Rattle.x509_path.specs.declared.certificate.PathCertificate.{PathCertificate}
use Rattle.x509_path.proofs.path.fill.Goals as goal

pub loop-at-preserved : goal.loop-at-preserved
loop-at-preserved c =
    let next = c.index-path-at.result in
    let facts = subst (λ (x : PathCertificate). AreFacts c.args.inputs.now (take c.loop-at.at c.args.path.now) x c.facts_of.result) c.index-path-at.is c.facts_of.ensures in (
      facts_more c.args.inputs.now c.args.path.now c.loop-at.at next _ _ c.facts_of.result c.loop-at-test.true c.loop-at.invariant.0 facts c.put.ensures.more,
      c.put.ensures.whole ∙ c.loop-at.invariant.1,
      omega (arith, c.loop-at-test.true),
    )

pub returns-clause-facts : goal.returns-clause-facts
returns-clause-facts c = facts_all c.args.inputs.now c.args.path.now c.loop-at.at c.loop-at.room c.loop-at.invariant.2 (omega arith) c.loop-at.invariant.0
