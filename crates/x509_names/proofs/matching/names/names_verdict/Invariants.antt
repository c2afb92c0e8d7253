use Rattle.x509_names.specs.Judgements.{AreJudged}
use Rattle.x509_names.specs.Verdicts.{HasVerdict}
use Rattle.x509_names.proofs.matching.names.names_verdict.Given as goal

abbrev pub invariant-names : goal.invariant-names
invariant-names l = AreJudged (HasVerdict l.constraints) l.yielded l.verdict
