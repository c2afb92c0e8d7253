use Rattle.der_base.proofs.laws.no_header_begins_another.Goals as goal
use Rattle.der_base.proofs.HeaderLemmas.{header_front}

pub returns : goal.returns
returns c t u m n x y e = header_front t u m n x y e
