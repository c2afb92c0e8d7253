use Rattle.x509_lint.proofs.FirstLemmas.{none_listed}
use Rattle.x509.specs.CertificateLists.{IsLevel, level_encoding}
use Rattle.x509_lint.specs.NameChecks.{LevelKeeps}
use Rattle.x509_lint.proofs.checks.name.name_keeps.Goals as goal

pub returns : goal.returns
returns c =
    none_listed IsLevel level_encoding c.args.name.now.levels.octets.now (λ _. LevelKeeps c.args.rule) c.first_failing_level.result c.is_none.result
    c.is_none.ensures c.args.name.now.levels.checked c.first_failing_level.ensures
