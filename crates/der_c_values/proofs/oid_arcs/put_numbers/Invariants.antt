use Rattle.der_asn1.specs.Arcs.{arc_items}
use Rattle.der_c_values.proofs.OidArcLemmas.{IsPuttingArcs}
use Rattle.der_c_values.proofs.oid_arcs.put_numbers.Given as goal

abbrev pub invariant-loop-arc : goal.invariant-loop-arc
invariant-loop-arc l = IsPuttingArcs (arc_items l.fn.arcs) (arc_items l.arc-iterator) l.at l.fn.numbers l.numbers
