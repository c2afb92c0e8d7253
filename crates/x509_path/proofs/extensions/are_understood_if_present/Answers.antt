use Rattle.x509_path.proofs.extensions.are_understood_if_present.Goals as goal

pub returns-in-Some : goal.returns-in-Some
returns-in-Some c = rw c.in-Some.is c.are_understood.ensures
