use Rattle.x509_names.specs.Judgements.{AreJudged}
use Rattle.x509_names.specs.Subjects.{HasAttributeVerdict}
use Rattle.x509_names.proofs.matching.subject.level_verdict.Given as goal

abbrev pub invariant-attributes : goal.invariant-attributes
invariant-attributes l = AreJudged (HasAttributeVerdict l.constraints) l.yielded l.verdict
