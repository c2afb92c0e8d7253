use Rattle.std.proofs.Common.{◌∙◌}
use Rattle.der_base.proofs.DerivedOrderLemmas.{tag_cmp-is}
use Rattle.der_base.proofs.comparisons.order.tag_ordering.Goals as goal

pub returns : goal.returns
returns c = c.cmp.ensures ∙ tag_cmp-is c.args.tag c.args.other
