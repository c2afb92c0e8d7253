use Rattle.std.proofs.Common.{◌^◌, ◌<◌, List, ℕ, length}
use Rattle.der.specs.Prelude.{Sequence}
use Rattle.x509_lint.proofs.ElementLemmas.{of_all_contents}
use Rattle.x509_lint.specs.PolicyChecks.{AreDistinctPolicies}
use Rattle.x509_lint.proofs.checks.value.are_distinct.Goals as goal

pub returns-in-Some : goal.returns-in-Some
returns-in-Some c =
    of_all_contents (λ (x : List ℕ). length x < 2 ^ 32 → AreDistinctPolicies x) c.args.value.now Sequence c.in-Some.contents.now c.are_distinct_in.result c.in-Some.ensures.some c.are_distinct_in.ensures
