use Rattle.ber.proofs.GrammarLemmas.{no_header}
use Rattle.ber.proofs.laws.no_header_at_a_fault.Goals as goal

pub returns : goal.returns
returns c octets f h fault next = no_header fault next.is next.rest next.split
