use Rattle.std.proofs.Common.{All}
use Rattle.x509_lint.specs.ExtensionTests.{IsFound}
use Rattle.x509_lint.proofs.checks.found.has_extension.Given as goal

abbrev pub invariant-loop-extension : goal.invariant-loop-extension
invariant-loop-extension l =
    (goal.iterator-loop-extension).can_next l.extension-iterator ×
    (goal.iterator-loop-extension).is_finite l.extension-iterator
    × All (λ v. IsFound l.fn.test v → ⊥) l.yielded
