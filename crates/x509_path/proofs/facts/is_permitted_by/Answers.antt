use Rattle.x509_path.proofs.facts.is_permitted_by.Goals as goal

pub returns : goal.returns
returns c = (_, c.issuers_verdict.ensures, c.is_permitted.ensures)
