use Rattle.std.proofs.Common.{◌^◌, ◌<◌, List, ℕ, length, sym, subst}
use Rattle.x509_lint.specs.PolicyChecks.{AreDistinctPolicies}
use Rattle.x509_lint.proofs.checks.value.are_distinct_in.Goals as goal

pub returns-in-Ok : goal.returns-in-Ok
returns-in-Ok c = (
  λ e _. subst AreDistinctPolicies c.in-Ok.ensures.ok.0 (c.has_distinct_policies.ensures.0 e),
  λ h. c.has_distinct_policies.ensures.1 (subst AreDistinctPolicies (sym c.in-Ok.ensures.ok.0) (h (subst (λ (x : List ℕ). length x < 2 ^ 32) c.in-Ok.ensures.ok.0 c.in-Ok.policies.short))),
)
