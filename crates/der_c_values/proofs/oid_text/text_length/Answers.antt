use Rattle.der_c_values.proofs.DottedLemmas.{counting_done}
use Rattle.der_c_values.proofs.oid_text.text_length.Goals as goal

pub returns-clause-count : goal.returns-clause-count
returns-clause-count c = counting_done c.loop-arc.invariant c.in-None.ensures.steps.0
