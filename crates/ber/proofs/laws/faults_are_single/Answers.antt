use Rattle.std.proofs.Common.{refl}
use Rattle.ber.proofs.FaultLemmas.{one_fault}
use Rattle.ber.proofs.laws.faults_are_single.Goals as goal

pub returns : goal.returns
returns c octets f g one other = one_fault one other refl
