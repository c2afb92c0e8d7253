use Rattle.std.proofs.Common.{◌*◌, ◌+◌}
use Rattle.test_fixtures.proofs.nest.+nest.Given as goal

-- the closure is between two calls of the function
abbrev pub decreases-pass_inside : goal.decreases-pass_inside
decreases-pass_inside g l = 2 * l.levels

abbrev pub decreases-read_nested : goal.decreases-read_nested
decreases-read_nested g l = 2 * l.inner + 1
