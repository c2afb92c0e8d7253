use Rattle.std.proofs.Common.{Some, ap, ◌∙◌}
use Rattle.der_base.proofs.DerivedOrderLemmas.{tag_cmp-is}
use Rattle.der_base.specs.contracts.tag.TagOrd.TheImpl.Laws.{matches_partial_cmp-law}
use Rattle.der_base.proofs.comparisons.partial_order.tag_partial_ordering.Goals as goal

pub returns : goal.returns
returns c = c.partial_cmp.ensures ∙ matches_partial_cmp-law c.args.tag c.args.other ∙ ap Some (tag_cmp-is c.args.tag c.args.other)
