use Rattle.std.proofs.Common.{All}
use Rattle.x509_path.specs.Qualifiers.{IsUnqualified}
use Rattle.x509_path.proofs.qualifiers.are_unqualified.Given as goal

abbrev pub invariant-loop-policy : goal.invariant-loop-policy
invariant-loop-policy l =
    (goal.iterator-loop-policy).can_next l.policy-iterator ×
    (goal.iterator-loop-policy).is_finite l.policy-iterator
    × All IsUnqualified l.yielded
