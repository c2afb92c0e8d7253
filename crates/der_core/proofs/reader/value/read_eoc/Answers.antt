use Rattle.std.proofs.lemmas.Result.{err_from_is_err_and}
use Rattle.der_core.proofs.EocLemmas.{eoc_read, eoc_refused}
use Rattle.der_core.proofs.reader.value.read_eoc.Goals as goal

pub returns-clause-exact : goal.returns-clause-exact
returns-clause-exact g c = eoc_read g.R.Reader.reliable _ c.read_zero_octet-2.result c.in_ok-read_zero_octet.ensures.exact c.read_zero_octet-2.ensures.exact

pub returns-in_err-read_zero_octet-clause-exact : goal.returns-in_err-read_zero_octet-clause-exact
returns-in_err-read_zero_octet-clause-exact g c =
    let p = err_from_is_err_and c.from_residual.result c.from_residual.ensures.1 in
    rw (p.1, p.2) (λ owed. eoc_refused (c.in_err-read_zero_octet.ensures.exact owed))
