use Rattle.ber.proofs.FaultLemmas.{stays}
use Rattle.ber.proofs.laws.faults_stay.Goals as goal

pub returns : goal.returns
returns c octets more f fault other = stays more fault other
