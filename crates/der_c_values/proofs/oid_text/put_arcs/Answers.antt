use Rattle.std.proofs.Common.{◌∷◌, ap, ◌∙◌}
use Rattle.der_asn1.specs.Arcs.{arc_items}
use Rattle.der_c_values.proofs.DottedLemmas.{putting_continues}
use Rattle.der_c_values.proofs.oid_text.put_arcs.Goals as goal

pub loop-arc-preserved-in-Some-arc : goal.loop-arc-preserved-in-Some-arc
loop-arc-preserved-in-Some-arc c =
    let one = c.put-at.ensures in
    let two = c.put-at-in-Some-arc.ensures in
    let steps = c.in-Some.ensures.steps in
    let is = c.in-Some-arc.is in
    putting_continues c.in-Some-arc.number c.put-at.result c.put-at-in-Some-arc.result c.as_slice.result.now c.put-at.new.text c.put-at-in-Some-arc.new.text
    c.loop-arc.invariant (steps ∙ ap (λ arc. arc ∷ arc_items c.next.new.self) is) (c.as_slice.ensures ∙ c.new.ensures) one.end one.size one.text one.following two.end two.size two.text two.following
