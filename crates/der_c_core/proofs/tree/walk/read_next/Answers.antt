use Rattle.std.proofs.Common.{refl}
use Rattle.der_c_core.proofs.ShortLemmas.{short_reads}
use Rattle.der_c_core.proofs.tree.walk.read_next.Goals as goal

pub returns-in-Some-clause-reads : goal.returns-in-Some-clause-reads
returns-in-Some-clause-reads c = (_, short_reads c.in-Some.ensures c.short_value.ensures, λ _. refl)
