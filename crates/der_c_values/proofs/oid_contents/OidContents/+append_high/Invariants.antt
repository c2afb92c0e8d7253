use Rattle.der_c_values.proofs.oid_contents.OidContents.+append_high.Given as goal

abbrev pub decreases-append_high : goal.decreases-append_high
decreases-append_high l = l.number
