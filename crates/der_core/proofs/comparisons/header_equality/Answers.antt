use Rattle.der_core.proofs.CompareLemmas.{headers_equal}
use Rattle.der_core.proofs.comparisons.header_equality.Goals as goal

pub returns : goal.returns
returns c = headers_equal c.args.a c.args.b c.eq.result c.eq.ensures
