use Rattle.der_base.proofs.DelimitedLemmas.{element_front, elements_decide}
use Rattle.der_core.proofs.laws.padding_never_decides.Goals as goal

pub returns : goal.returns
returns c = record { apart = element_front; padded = elements_decide }
