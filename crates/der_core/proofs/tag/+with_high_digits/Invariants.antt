use Rattle.der_core.proofs.tag.+with_high_digits.Given as goal

abbrev pub decreases-with_high_digits : goal.decreases-with_high_digits
decreases-with_high_digits l = l.number
