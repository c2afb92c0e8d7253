use Rattle.std.proofs.Common.{◌≡◌, is_some, false, refl, ap, sym, ◌∙◌, rules}
use Rattle.der_asn1.specs.Enumeration.{item_form}
use Rattle.der_asn1.proofs.EnumerationLemmas.{item_form-octets}
use Rattle.der_asn1.proofs.numbers.enumeration_item.EnumerationItemIntegerNumber.from_contents.Goals as goal

pub returns-in_err-item-clause-some : goal.returns-in_err-item-clause-some
returns-in_err-item-clause-some g c =
    let item_of = g.E.Enumeration.item_of in
    let read = c.in_ok-number.ensures in
    let form : item_form item_of c.args.octets.now ≡ false =
    item_form-octets item_of c.in_ok-number.number c.args.octets.now (read.some.0 refl) read.same ∙ ap is_some (sym c.in_err-item.ensures.item) in
    search rules

pub returns-clause-some : goal.returns-clause-some
returns-clause-some g c =
    let item_of = g.E.Enumeration.item_of in
    let read = c.in_ok-number.ensures in (
      λ some. item_form-octets item_of c.in_ok-number.number c.args.octets.now (read.some.0 refl) read.same ∙ ap is_some (sym c.in_ok-item.ensures.item),
      λ form. refl,
    )
