use Rattle.x509_lint.proofs.checks.list.has_single_extensions.Goals as goal

pub returns-in-Some : goal.returns-in-Some
returns-in-Some c = rw c.in-Some.is c.extensions_keep.ensures
