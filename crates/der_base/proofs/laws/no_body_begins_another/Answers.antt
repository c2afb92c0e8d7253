use Rattle.der_base.proofs.laws.no_body_begins_another.Goals as goal
use Rattle.der_base.proofs.BodyLemmas.{body_front}

pub returns : goal.returns
returns c a b x y m n h g e = body_front h g x y e
