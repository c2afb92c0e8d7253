use Rattle.der_core.proofs.comparisons.encodings_are_compared.Goals as goal

pub returns : goal.returns
returns g c =
    let orderly = g.met.T.Orderly.orderly c.args.value.now c.args.other.now in
    record { ok = c.der_cmp.ensures.ok orderly; complete = c.der_cmp.ensures.complete orderly }
