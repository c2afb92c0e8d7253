use Rattle.std.proofs.Common.{◌≡◌, ◌≤◌, ◌+◌, length, All}
use Rattle.x509_lint.specs.NameChecks.{AttributeKeeps}
use Rattle.x509_lint.proofs.checks.name.first_failing_of_level.Given as goal

abbrev pub invariant-loop-attribute : goal.invariant-loop-attribute
invariant-loop-attribute l =
    (goal.iterator-loop-attribute).can_next l.attribute-iterator ×
    (goal.iterator-loop-attribute).is_finite l.attribute-iterator
    × (l.place ≡ length l.yielded)
    × (l.place + goal.iterator-loop-attribute.remaining l.attribute-iterator ≤ length l.fn.level.attributes.elements.octets.now)
    × All (AttributeKeeps l.fn.rule) l.yielded
