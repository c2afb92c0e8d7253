use Rattle.std.proofs.Common.{All}
use Rattle.x509_path.specs.Extensions.{IsUnderstoodBy}
use Rattle.x509_path.proofs.extensions.are_understood.Given as goal

abbrev pub invariant-loop-extension : goal.invariant-loop-extension
invariant-loop-extension l =
    (goal.iterator-loop-extension).can_next l.extension-iterator ×
    (goal.iterator-loop-extension).is_finite l.extension-iterator
    × All (IsUnderstoodBy l.fn.judges_policies) l.yielded
