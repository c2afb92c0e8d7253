use Rattle.std.proofs.Common.{◌∙◌, subst}
use Rattle.schema_write.specs.Same.{IsElementOf}
use Rattle.schema_write.proofs.PieceLemmas.{element_of}
use Rattle.schema_write.proofs.element.element.Goals as goal

pub returns-then-is_header_of : goal.returns-then-is_header_of
returns-then-is_header_of c =
    let octets = c.as_slice-octets.result.now in
    let yes = c.if-is_header_of.true in
    let it = c.is_header_of.ensures in
    subst (λ q. IsElementOf c.args.header c.args.constructed c.args.contents.now q) c.as_slice-octets.ensures.value
    (element_of c.args.header c.in-Ok.written c.args.constructed c.put_length.new.out.items c.args.contents.now octets
    c.in-Ok.ensures.next c.in-Ok.ensures.real c.in-Ok.ensures.known (it.class yes) (it.number yes) (it.form yes) (it.minimal yes) (it.length yes) (c.as_slice-octets.ensures.value ∙ c.in_ok-extend_from_slice.ensures.items) (it.all yes))
