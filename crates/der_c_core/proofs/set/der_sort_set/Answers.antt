use Rattle.std.proofs.Common.{rules}
use Rattle.std.proofs.lemmas.Cmp.{nat_list_cmp_total}
use Rattle.std.proofs.lemmas.Fn.{always_returns_same}
use Rattle.std.proofs.lemmas.List.Sorted.{ranks_by}
use Rattle.der_c_core.proofs.SetOrderLemmas.{is_before, ascends}
use Rattle.der_c_core.proofs.set.der_sort_set.Goals as goal

pub returns-clause-sorted : goal.returns-clause-sorted
returns-clause-sorted c =
    ascends _ (c.sort_unstable_by.ensures.sorted is_before (ranks_by nat_list_cmp_total (λ v. v.octets.now)) (always_returns_same _ _ _ (λ a r f k. search rules)))
