use Rattle.test_fixtures.proofs.zeros.+write_zeros.Given as goal

abbrev pub decreases-write_zeros : goal.decreases-write_zeros
decreases-write_zeros g l = l.count
