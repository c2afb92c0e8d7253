use Rattle.x509_path.proofs.extensions.has_distinct_extensions.Goals as goal

pub returns-in-Some : goal.returns-in-Some
returns-in-Some c = rw c.in-Some.is c.extensions_keep.ensures
