use Rattle.der_core.proofs.BeforeLemmas.{written_whole}
use Rattle.der_core.proofs.encode.Encode.encode_to_slice.Goals as goal

pub returns-in-Some-clause-exact : goal.returns-in-Some-clause-exact
returns-in-Some-clause-exact g c =
    let e = c.in-Some.ensures in
    written_whole _ _ _ _ _ _ c.in-Some.count c.encode_before.result e.certain e.fits e.countable c.encode_before.ensures
