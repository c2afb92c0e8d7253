use Rattle.der_c_core.proofs.scan.der_scan.Given as goal

abbrev pub ghosts-scan_counted : goal.ghosts-scan_counted
ghosts-scan_counted a = record { name = a.blank.name; parts = a.blank.parts }
