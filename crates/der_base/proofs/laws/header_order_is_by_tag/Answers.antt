use Rattle.der_base.proofs.OrderLemmas.{header_order}
use Rattle.der_base.proofs.laws.header_order_is_by_tag.Goals as goal

pub returns : goal.returns
returns c = header_order
