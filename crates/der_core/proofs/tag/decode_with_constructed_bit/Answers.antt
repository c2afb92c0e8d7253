use Rattle.std.proofs.lemmas.Result.{err_from_is_err_and}
use Rattle.der_core.proofs.TagReadLemmas.{passes_as}
use Rattle.der_core.proofs.DecodeLemmas.{decoded_ok, decoded_err}
use Rattle.der_core.proofs.tag.decode_with_constructed_bit.Goals as goal

pub returns-in_err-identifier : goal.returns-in_err-identifier
returns-in_err-identifier g c =
    let p = err_from_is_err_and c.from_residual.result c.from_residual.ensures.1 in
    rw (p.1, p.2) (decoded_err c.in_err-identifier.ensures.same c.in_err-identifier.ensures.refused)

pub returns : goal.returns
returns g c =
    decoded_ok c.in_ok-identifier.ensures.same (passes_as c.tag.ensures c.is_constructed.ensures c.in_ok-identifier.ensures.ok)
