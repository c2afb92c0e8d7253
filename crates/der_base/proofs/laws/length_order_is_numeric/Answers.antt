use Rattle.der_base.proofs.OrderLemmas.{length_order}
use Rattle.der_base.proofs.laws.length_order_is_numeric.Goals as goal

pub returns : goal.returns
returns c = length_order
