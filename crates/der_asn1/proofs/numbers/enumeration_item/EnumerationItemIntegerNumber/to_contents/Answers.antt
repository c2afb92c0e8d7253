use Rattle.std.proofs.Common.{◌≡◌, ◌^◌, is_some, true, false, refl, ap, subst, ◌∙◌}
use Rattle.der_asn1.specs.Integer.{integer_octets, unsigned_form}
use Rattle.der_asn1.proofs.EnumerationLemmas.{item_form-octets}
use Rattle.der_asn1.proofs.numbers.enumeration_item.EnumerationItemIntegerNumber.to_contents.Goals as goal

pub returns-clause-formed : goal.returns-clause-formed
returns-clause-formed g c =
    let number = g.E.Enumeration.number_of c.args.self.0 in
    let form : unsigned_form (2 ^ 32) (integer_octets false number) ≡ true =
    subst (λ n. unsigned_form (2 ^ 32) (integer_octets false n) ≡ true) c.to_number.ensures.number c.to_contents.ensures.formed in
    item_form-octets g.E.Enumeration.item_of number (integer_octets false number) form refl ∙ ap is_some c.to_number.ensures.item
