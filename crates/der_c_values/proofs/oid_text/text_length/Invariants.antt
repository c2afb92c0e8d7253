use Rattle.der_asn1.specs.Arcs.{arc_items}
use Rattle.der_c_values.proofs.DottedLemmas.{IsCounting}
use Rattle.der_c_values.proofs.oid_text.text_length.Given as goal

abbrev pub invariant-loop-arc : goal.invariant-loop-arc
invariant-loop-arc l = IsCounting (arc_items l.fn.arcs) (arc_items l.arc-iterator) l.count
