use Rattle.der_base.proofs.GrowthLemmas.{body_parts}
use Rattle.der_base.proofs.laws.parts_have_two_octets.Goals as goal

pub returns : goal.returns
returns c = λ level parts body h. body_parts h
