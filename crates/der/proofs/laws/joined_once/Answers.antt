use Rattle.der.proofs.JoinedLemmas.{one_joined}
use Rattle.der.proofs.laws.joined_once.Goals as goal

pub returns : goal.returns
returns c tag levels octets x y h g = one_joined h g
