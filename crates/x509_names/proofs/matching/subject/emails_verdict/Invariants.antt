use Rattle.x509_names.specs.Judgements.{AreJudged}
use Rattle.x509_names.specs.Subjects.{HasLevelVerdict}
use Rattle.x509_names.proofs.matching.subject.emails_verdict.Given as goal

abbrev pub invariant-levels : goal.invariant-levels
invariant-levels l = AreJudged (HasLevelVerdict l.constraints) l.yielded l.verdict
