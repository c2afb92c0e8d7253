use Rattle.der_base.proofs.laws.no_length_begins_another.Goals as goal
use Rattle.der_base.proofs.LengthLemmas.{length_front}

pub returns : goal.returns
returns c m n x y e = length_front m n x y e
