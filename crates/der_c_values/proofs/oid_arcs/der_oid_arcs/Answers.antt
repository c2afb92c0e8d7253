use Rattle.std.proofs.Common.{◌≡◌, true, ◌++◌, length, drop, map, refl, sym, ap, ◌∙◌, arith}
use Rattle.der_asn1.specs.Arcs.{arcs_left, arc_items, oid_arcs}
use Rattle.der_c_values.specs.Dotted.{all_fit}
use Rattle.der_c_values.specs.OidArcs.{too_large, no_space, succeeds, are_narrow_arcs, narrow_item}
use Rattle.der_c_values.proofs.OidArcLemmas.{items_count, items_fit, items_numbers}
use Rattle.der_c_values.proofs.OidTextLemmas.{items_same}
use Rattle.der_c_values.proofs.ValueLemmas.{not_true}
use Rattle.der_c_values.proofs.oid_arcs.der_oid_arcs.Goals as goal

pub returns-in_default-count_arcs : goal.returns-in_default-count_arcs
returns-in_default-count_arcs c =
    let arcs = c.arcs-all.result in
    let same : arcs_left arcs ≡ oid_arcs c.args.oid.now = c.arcs-all.ensures.arcs ∙ ap oid_arcs c.in-Some.ensures.same in
    let copied : arc_items c.in-Ok.copy ≡ arc_items arcs = items_same arcs c.in-Ok.copy c.in-Ok.ensures.cases in
    too_large (c.in-Some.ensures.some.0 refl)
    (ap are_narrow_arcs (sym same) ∙ sym (items_fit arcs) ∙ ap (λ items. all_fit (map narrow_item items)) (sym copied) ∙ not_true c.in_default-count_arcs.ensures.fits.1)
    refl refl refl

pub returns-then-number-arcs : goal.returns-then-number-arcs
returns-then-number-arcs c =
    let arcs = c.arcs-all.result in
    let same : arcs_left arcs ≡ oid_arcs c.args.oid.now = c.arcs-all.ensures.arcs ∙ ap oid_arcs c.in-Some.ensures.same in
    let copied : arc_items c.in-Ok.copy ≡ arc_items arcs = items_same arcs c.in-Ok.copy c.in-Ok.ensures.cases in
    let size : length (arc_items c.in-Ok.copy) ≡ length (oid_arcs c.args.oid.now) = ap length copied ∙ items_count arcs ∙ ap length same in
    no_space (c.in-Some.ensures.some.0 refl)
    (ap are_narrow_arcs (sym same) ∙ sym (items_fit arcs) ∙ ap (λ items. all_fit (map narrow_item items)) (sym copied) ∙ c.in-Some-count_arcs.ensures.fits.0 refl)
    (omega (arith, size, c.in-Some-count_arcs.ensures.count)) refl refl refl

pub returns : goal.returns
returns c =
    let arcs = c.arcs-all.result in
    let same : arcs_left arcs ≡ oid_arcs c.args.oid.now = c.arcs-all.ensures.arcs ∙ ap oid_arcs c.in-Some.ensures.same in
    let copied : arc_items c.in-Ok.copy ≡ arc_items arcs = items_same arcs c.in-Ok.copy c.in-Ok.ensures.cases in
    let narrow : are_narrow_arcs (oid_arcs c.args.oid.now) ≡ true =
    ap are_narrow_arcs (sym same) ∙ sym (items_fit arcs) ∙ ap (λ items. all_fit (map narrow_item items)) (sym copied) ∙ c.in-Some-count_arcs.ensures.fits.0 refl in
    succeeds (c.in-Some.ensures.some.0 refl) narrow refl (c.put_numbers.ensures.count ∙ items_count arcs ∙ ap length same)
    (c.put_numbers.ensures.numbers ∙ ap (λ x. x ++ drop c.put_numbers.result c.args.arcs.now) (items_numbers arcs (ap are_narrow_arcs same ∙ narrow) ∙ same))
