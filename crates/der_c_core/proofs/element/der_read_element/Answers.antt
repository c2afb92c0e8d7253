use Rattle.der_c_core.proofs.ShortLemmas.{short_reads}
use Rattle.der_c_core.proofs.element.der_read_element.Goals as goal

pub returns-in-Some-clause-reads : goal.returns-in-Some-clause-reads
returns-in-Some-clause-reads c = short_reads c.in-Some.ensures c.short_value.ensures
