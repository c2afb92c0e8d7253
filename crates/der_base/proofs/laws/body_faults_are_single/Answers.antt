use Rattle.der_base.proofs.laws.body_faults_are_single.Goals as goal
use Rattle.der_base.proofs.ScanLemmas.{body_fault_laws}

pub returns : goal.returns
returns c = body_fault_laws
