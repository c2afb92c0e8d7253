use Rattle.std.proofs.Common.{◌≡◌, ◌+◌, length, refl, sym, ap, ◌∙◌, length-append, arith}
use Rattle.der_asn1.specs.Arcs.{arcs_left, arc_items, oid_arcs, oid_octets}
use Rattle.der_c_values.specs.Dotted.{too_large, no_space, succeeds, items_text, all_fit, oid_text}
use Rattle.der_c_values.proofs.OidTextLemmas.{arcs_large, items_same, whole_text, zero_at_end}
use Rattle.der_c_values.proofs.ValueLemmas.{not_true}
use Rattle.der_c_values.proofs.oid_text.der_oid_text.Goals as goal

pub returns-in_default-text_length : goal.returns-in_default-text_length
returns-in_default-text_length c =
    let arcs = c.arcs-arcs.result in
    let same : arcs_left arcs ≡ oid_arcs c.args.oid.now = c.arcs-arcs.ensures.arcs ∙ ap oid_arcs c.in-Some.ensures.same in
    let copied : arc_items c.in-Ok.copy ≡ arc_items arcs = items_same arcs c.in-Ok.copy c.in-Ok.ensures.cases in
    too_large (c.in-Some.ensures.some.0 refl)
    (arcs_large arcs c.args.oid.now same (ap all_fit (sym copied) ∙ not_true c.in_default-text_length.ensures.fits.1)) refl refl refl

pub returns-then-length-text : goal.returns-then-length-text
returns-then-length-text c =
    let arcs = c.arcs-arcs.result in
    let form = c.in-Some.ensures.some.0 refl in
    let same : arcs_left arcs ≡ oid_arcs c.args.oid.now = c.arcs-arcs.ensures.arcs ∙ ap oid_arcs c.in-Some.ensures.same in
    let back : oid_octets (arcs_left arcs) ≡ c.args.oid.now = c.arcs-arcs.ensures.octets ∙ c.in-Some.ensures.same in
    let copied : arc_items c.in-Ok.copy ≡ arc_items arcs = items_same arcs c.in-Ok.copy c.in-Ok.ensures.cases in
    let whole = whole_text arcs c.args.oid.now form same back (ap all_fit (sym copied) ∙ c.in-Some-text_length.ensures.fits.0 refl) in
    let size : length (items_text (arc_items c.in-Ok.copy)) ≡ length (oid_text c.args.oid.now) + 1 =
    ap (λ items. length (items_text items)) copied ∙ ap length whole ∙ length-append (oid_text c.args.oid.now) _ in
    no_space form (omega (arith, size, c.in-Some-text_length.ensures.count)) refl refl refl

pub returns : goal.returns
returns c =
    let arcs = c.arcs-arcs.result in
    let form = c.in-Some.ensures.some.0 refl in
    let same : arcs_left arcs ≡ oid_arcs c.args.oid.now = c.arcs-arcs.ensures.arcs ∙ ap oid_arcs c.in-Some.ensures.same in
    let back : oid_octets (arcs_left arcs) ≡ c.args.oid.now = c.arcs-arcs.ensures.octets ∙ c.in-Some.ensures.same in
    let copied : arc_items c.in-Ok.copy ≡ arc_items arcs = items_same arcs c.in-Ok.copy c.in-Ok.ensures.cases in
    let whole = whole_text arcs c.args.oid.now form same back (ap all_fit (sym copied) ∙ c.in-Some-text_length.ensures.fits.0 refl) in
    let size : length (items_text (arc_items arcs)) ≡ length (oid_text c.args.oid.now) + 1 = ap length whole ∙ length-append (oid_text c.args.oid.now) _ in
    succeeds form refl (omega (arith, size, c.put_arcs-end.ensures.count))
    (zero_at_end (oid_text c.args.oid.now) (items_text (arc_items arcs)) c.args.text.now c.put_arcs-end.new.text c.put_arcs-end.result whole c.put_arcs-end.ensures.count c.put_arcs-end.ensures.text)
