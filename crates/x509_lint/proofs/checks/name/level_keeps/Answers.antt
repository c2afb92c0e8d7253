use Rattle.x509_lint.proofs.FirstLemmas.{none_listed}
use Rattle.x509.specs.CertificateLists.{IsAttribute, attribute_encoding, level_octets}
use Rattle.x509_lint.specs.NameChecks.{AttributeKeeps}
use Rattle.x509_lint.proofs.checks.name.level_keeps.Goals as goal

pub returns-in-Attributes : goal.returns-in-Attributes
returns-in-Attributes c =
    rw c.in-Attributes.is (none_listed IsAttribute attribute_encoding (level_octets c.args.level.now) (λ _. AttributeKeeps c.in-Attributes.rule) c.first_failing_of_level.result c.is_none.result
    c.is_none.ensures c.args.level.now.attributes.elements.checked c.first_failing_of_level.ensures)
