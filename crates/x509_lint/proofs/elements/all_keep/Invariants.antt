use Rattle.std.proofs.Common.{All}
use Rattle.der_asn1.specs.AnyRef.{any_contents}
use Rattle.x509_lint.proofs.elements.all_keep.Given as goal

abbrev pub invariant-loop-element : goal.invariant-loop-element
invariant-loop-element g l =
    (goal.iterator-loop-element g).can_next l.element-iterator ×
    (goal.iterator-loop-element g).is_finite l.element-iterator
    × All (λ v. g.T.ElementTest.keeps l.fn.test v.tag (any_contents v)) l.yielded
