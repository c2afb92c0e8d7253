use Rattle.std.proofs.Common.{rules, arith}
use Rattle.std.proofs.lemmas.Cmp.{nat_list_cmp_total}
use Rattle.std.proofs.lemmas.Fn.{always_returns_same}
use Rattle.std.proofs.lemmas.List.Sorted.{ranks_by}
use Rattle.der.specs.BorrowedOctets.{borrowed_octets}
use Rattle.example_calls.specs.AscendingStrings.{string_octets}
use Rattle.example_calls.proofs.SetOfLemmas.{is_before, ascends, same_count}
use Rattle.example_calls.proofs.set_of.set_of_der.Goals as goal

pub returns-clause-sorted : goal.returns-clause-sorted
returns-clause-sorted c =
    ascends _ (c.sort_unstable_by.ensures.sorted is_before (ranks_by nat_list_cmp_total (λ v. string_octets (borrowed_octets v))) (always_returns_same _ _ _ (λ a r f k. search rules)))

pub returns-clause-succeeds : goal.returns-clause-succeeds
returns-clause-succeeds c few = c.ordered_der.ensures.succeeds (omega (arith, few, same_count _ _ c.sort_unstable_by.ensures.permutation))

pub returns-clause-too_long : goal.returns-clause-too_long
returns-clause-too_long c far = c.ordered_der.ensures.too_long (omega (arith, far, same_count _ _ c.sort_unstable_by.ensures.permutation))
