use Rattle.x509_path.proofs.verdicts.issuer_verdict.Goals as goal

pub returns-in-Some : goal.returns-in-Some
returns-in-Some c = rw c.in-Some.is c.extensions_verdict.ensures
