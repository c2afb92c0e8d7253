use Rattle.std.proofs.Common.{◌≡◌, ◌≤◌, ◌+◌, length, All}
use Rattle.x509_lint.specs.NameChecks.{LevelKeeps}
use Rattle.x509_lint.proofs.checks.name.first_failing_level.Given as goal

abbrev pub invariant-loop-level : goal.invariant-loop-level
invariant-loop-level l =
    (goal.iterator-loop-level).can_next l.level-iterator ×
    (goal.iterator-loop-level).is_finite l.level-iterator
    × (l.place ≡ length l.yielded)
    × (l.place + goal.iterator-loop-level.remaining l.level-iterator ≤ length l.fn.name.levels.octets.now)
    × All (LevelKeeps l.fn.rule) l.yielded
