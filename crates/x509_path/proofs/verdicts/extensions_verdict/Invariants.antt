use Rattle.x509_names.specs.Judgements.{AreJudged}
use Rattle.x509_path.specs.Names.{IsExtensionVerdict}
use Rattle.x509_path.proofs.verdicts.extensions_verdict.Given as goal

abbrev pub invariant-extensions : goal.invariant-extensions
invariant-extensions l = AreJudged (IsExtensionVerdict l.signed) l.yielded l.verdict
