use Rattle.std.proofs.Common.{◌∷◌, ap, ◌∙◌}
use Rattle.der_asn1.specs.Arcs.{arc_items}
use Rattle.der_c_values.proofs.OidIsLemmas.{matching_continues}
use Rattle.der_c_values.proofs.oid_is.are_arcs.Goals as goal

pub loop-arc-preserved : goal.loop-arc-preserved
loop-arc-preserved c =
    let some = c.in-Some-match_number.ensures.some in
    matching_continues c.in-Some-arc.number c.in-Some-match_number.end c.as_slice.result.now c.loop-arc.invariant
    (c.in-Some.ensures.steps ∙ ap (λ arc. arc ∷ arc_items c.next.new.self) c.in-Some-arc.is) (c.as_slice.ensures ∙ c.new.ensures) some.0 some.1
