use Rattle.std.proofs.lemmas.Result.{err_from_is_err_and}
use Rattle.der_asn1.proofs.lists.set_walk.next_octets.Goals as goal

pub returns-in_err-_item-clause-exact : goal.returns-in_err-_item-clause-exact
returns-in_err-_item-clause-exact g c reliable =
    let p = err_from_is_err_and c.from_residual.result c.from_residual.ensures.1 in
    rw (p.1, p.2) (c.in_err-_item.ensures.exact reliable)

pub returns-clause-exact : goal.returns-clause-exact
returns-clause-exact g c reliable = (c.in_ok-_item._item, c.in_ok-_item.ensures.exact reliable)
