use Rattle.der.proofs.JoinedLemmas.{joined_up}
use Rattle.der.proofs.laws.joined_with_more_levels.Goals as goal

pub returns : goal.returns
returns c tag levels more octets out h fits = joined_up h more fits
