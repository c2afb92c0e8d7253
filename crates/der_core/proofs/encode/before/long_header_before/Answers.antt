use Rattle.std.proofs.Common.{arith, ℕ, List, length, ap, subst, refl, ◌∙◌}
use Rattle.der_base.specs.Length.{number, length_octets}
use Rattle.der_base.specs.declared.length.Length.{Length}
use Rattle.der_base.specs.Tag.{label, leading_octet}
use Rattle.der_core.specs.Before.{PlacedIfSpace}
use Rattle.der_core.proofs.EncodeLemmas.{header_of_three, header_of_four}
use Rattle.der_core.proofs.encode.before.long_header_before.Goals as goal

pub returns-then-octet_count-eq2 : goal.returns-then-octet_count-eq2
returns-then-octet_count-eq2 c =
    let first = c.first_octet_of-first.ensures ∙ ap (leading_octet (label c.args.tag)) c.number-low.ensures in
    let e = header_of_three c.args.tag c.args.count c.first_octet_of-first.result _ (omega (arith, c.number-low.ensures, c.if-low-lt31.true)) first (omega (arith, c.octet_count.ensures.octets, c.if-octet_count-eq2.true, ap (λ (l : Length). length (length_octets (number l))) c.new-len.ensures)) refl in
    subst (λ (l : List ℕ). PlacedIfSpace l c.place_before.result c.args.end c.args.buf.now c.place_before.new.buf) e c.place_before.ensures

pub returns-then-octet_count-eq3 : goal.returns-then-octet_count-eq3
returns-then-octet_count-eq3 c =
    let first = c.first_octet_of-first-then-octet_count-eq3.ensures ∙ ap (leading_octet (label c.args.tag)) c.number-low.ensures in
    let e = header_of_four c.args.tag c.args.count c.first_octet_of-first-then-octet_count-eq3.result _ _ (omega (arith, c.number-low.ensures, c.if-low-lt31-2.true)) first (omega (arith, c.octet_count-then-low-lt31-2.ensures.octets, c.if-octet_count-eq3.true, ap (λ (l : Length). length (length_octets (number l))) c.new-len.ensures)) refl refl in
    subst (λ (l : List ℕ). PlacedIfSpace l c.place_before-then-octet_count-eq3.result c.args.end c.args.buf.now c.place_before-then-octet_count-eq3.new.buf) e c.place_before-then-octet_count-eq3.ensures
