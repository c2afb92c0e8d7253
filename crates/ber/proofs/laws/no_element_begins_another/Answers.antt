use Rattle.ber.proofs.ElementLemmas.{one_element}
use Rattle.ber.proofs.laws.no_element_begins_another.Goals as goal

pub returns : goal.returns
returns q h g c d a b x y is js e = one_element x y is js e
