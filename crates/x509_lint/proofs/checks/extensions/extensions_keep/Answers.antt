use Rattle.x509_lint.proofs.FirstLemmas.{none_listed}
use Rattle.x509_lint.specs.CertificateChecks.{ExtensionKeeps}
use Rattle.x509.specs.CertificateLists.{IsExtension, extension_encoding}
use Rattle.x509_lint.proofs.checks.extensions.extensions_keep.Goals as goal

pub returns : goal.returns
returns c =
    none_listed IsExtension extension_encoding c.args.extensions.now.items.octets.now (ExtensionKeeps c.args.rule) c.first_failing_extension.result c.is_none.result
    c.is_none.ensures c.args.extensions.now.items.checked c.first_failing_extension.ensures
