use Rattle.std.proofs.Common.{refl}
use Rattle.ber.proofs.FaultLemmas.{needs}
use Rattle.ber.proofs.laws.truncated_needs_more.Goals as goal

pub returns : goal.returns
returns c octets more at needed h fault is = needs more at needed fault refl is
