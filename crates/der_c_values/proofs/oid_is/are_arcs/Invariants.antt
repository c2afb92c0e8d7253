use Rattle.der_asn1.specs.Arcs.{arc_items}
use Rattle.der_c_values.proofs.OidIsLemmas.{IsMatching}
use Rattle.der_c_values.proofs.oid_is.are_arcs.Given as goal

abbrev pub invariant-loop-arc : goal.invariant-loop-arc
invariant-loop-arc l = IsMatching (arc_items l.fn.arcs) (arc_items l.arc-iterator) l.text l.at
