use Rattle.der_base.proofs.laws.no_identifier_begins_another.Goals as goal
use Rattle.der_base.proofs.IdentifierLemmas.{identifier_front}

pub returns : goal.returns
returns c rules a b t u p q x y h k e = identifier_front h k x y e
