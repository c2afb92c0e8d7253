use Rattle.x509_lint.proofs.entry_test.entries_keep.Goals as goal

pub returns-in-NotCritical : goal.returns-in-NotCritical
returns-in-NotCritical c = rw c.in-NotCritical.is c.are_not_critical.ensures

pub returns-in-IssuerCritical : goal.returns-in-IssuerCritical
returns-in-IssuerCritical c = rw c.in-IssuerCritical.is c.have_critical_issuers.ensures

pub returns-in-NotRemoved : goal.returns-in-NotRemoved
returns-in-NotRemoved c = rw c.in-NotRemoved.is c.are_not_removed.ensures

pub returns-in-NoIssuer : goal.returns-in-NoIssuer
returns-in-NoIssuer c = rw c.in-NoIssuer.is c.have_no_issuers.ensures
