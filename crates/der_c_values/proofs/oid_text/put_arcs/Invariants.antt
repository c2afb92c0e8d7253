use Rattle.der_asn1.specs.Arcs.{arc_items}
use Rattle.der_c_values.proofs.DottedLemmas.{IsPutting}
use Rattle.der_c_values.proofs.oid_text.put_arcs.Given as goal

abbrev pub invariant-loop-arc : goal.invariant-loop-arc
invariant-loop-arc l = IsPutting (arc_items l.fn.arcs) (arc_items l.arc-iterator) l.at l.fn.text l.text
