use Rattle.der_base.proofs.OrderLemmas.{order_parts}
use Rattle.der_base.proofs.laws.fronts_decide.Goals as goal

pub returns : goal.returns
returns c = order_parts
