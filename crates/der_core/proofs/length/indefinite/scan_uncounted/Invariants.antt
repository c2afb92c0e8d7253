use Rattle.der_core.proofs.length.indefinite.scan_uncounted.Given as goal

abbrev pub ghosts-scan_counted : goal.ghosts-scan_counted
ghosts-scan_counted g a = record { name = a.blank.name; parts = a.blank.parts }
