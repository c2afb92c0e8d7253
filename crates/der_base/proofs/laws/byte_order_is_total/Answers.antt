use Rattle.std.proofs.lemmas.Cmp.{nat_list_cmp_total}
use Rattle.der_base.proofs.OrderLemmas.{same_octets, equal_octets, before_from_less, less_from_before}
use Rattle.der_base.proofs.laws.byte_order_is_total.Goals as goal

pub returns : goal.returns
returns c = record {
  total = nat_list_cmp_total;
  less = λ a b. (before_from_less a b, less_from_before a b);
  same = λ a b. (same_octets a b, equal_octets a b);
}
