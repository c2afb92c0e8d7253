use Rattle.der_core.proofs.tag.+encode_high_digits.Given as goal

abbrev pub decreases-encode_high_digits : goal.decreases-encode_high_digits
decreases-encode_high_digits g c = c.number
