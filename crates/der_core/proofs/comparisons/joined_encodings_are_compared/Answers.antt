use Rattle.std.proofs.lemmas.Iterator.{YieldsList-from_slice}
use Rattle.der_core.proofs.ItemLemmas.{each_place, each_place_all}
use Rattle.der_core.proofs.comparisons.joined_encodings_are_compared.Goals as goal

pub returns : goal.returns
returns g c =
    let a = c.args.these.now in
    let b = c.args.those.now in
    let these = (YieldsList-from_slice a c.iter.ensures.rest).runs in
    let those = (YieldsList-from_slice b c.iter-2.ensures.rest).runs in
    record {
      ok = c.iter_cmp.ensures.ok tt a b these those (each_place _ g.met.T.Orderly.orderly a b);
      complete = λ p q. c.iter_cmp.ensures.complete tt a b these those (each_place_all _ _ g.met.T.Orderly.orderly a b p q);
    }
