use Rattle.std.proofs.Common.{◌≡◌, ◌∙◌, [], sym, subst, append-nil, true}
use Rattle.ber.specs.Element.{IsElement}
use Rattle.ber.proofs.ElementLemmas.{one_element}
use Rattle.schema_read.specs.Known.{IsIdentifier, changed, same}
use Rattle.schema_read.proofs.known.known_after.Goals as goal

pub returns-in-Ok : goal.returns-in-Ok
returns-in-Ok c el =
    let octets = c.args.octets.now in
    let id = subst IsIdentifier (sym c.node_of.ensures.value) (c.is_identifier.ensures.0 c.if-is_identifier.true) in
    let e = el id in
    let f = c.in-Ok.ensures.found in
    let one = one_element [] c.in-Ok.element.rest.now e.2 f.1 (append-nil octets ∙ f.2) in
    changed id (subst (λ i. IsElement e.0 i octets) one.1 e.2)

pub returns-in-Err : goal.returns-in-Err
returns-in-Err c el =
    let octets = c.args.octets.now in
    let id = subst IsIdentifier (sym c.node_of.ensures.value) (c.is_identifier.ensures.0 c.if-is_identifier.true) in
    let e = el id in
    absurd (c.in-Err.ensures.none e.0 e.1 octets [] e.2 (sym (append-nil octets)))

pub returns : goal.returns
returns c el =
    same (λ id. let on : c.is_identifier.result ≡ true = c.is_identifier.ensures.1 (subst IsIdentifier c.node_of.ensures.value id) in let off = c.if-is_identifier.false in absurd (cc))
