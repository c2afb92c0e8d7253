use Rattle.der_base.proofs.TotalLemmas.{bodies_or_faults}
use Rattle.der_base.proofs.laws.bodies_or_faults.Goals as goal

pub returns : goal.returns
returns c = bodies_or_faults
