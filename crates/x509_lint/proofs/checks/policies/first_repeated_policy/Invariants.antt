use Rattle.std.proofs.Common.{◌≡◌, ◌≤◌, ◌+◌, length, All}
use Rattle.x509_lint.specs.PolicyChecks.{ArePolicies, IsOnlyPolicy}
use Rattle.x509_lint.proofs.checks.policies.first_repeated_policy.Given as goal

abbrev pub invariant-loop-policy : goal.invariant-loop-policy
invariant-loop-policy l =
    (goal.iterator-loop-policy).can_next l.policy-iterator ×
    (goal.iterator-loop-policy).is_finite l.policy-iterator
    × (l.place ≡ length l.yielded)
    × (l.place + goal.iterator-loop-policy.remaining l.policy-iterator ≤ length l.fn.policies.octets.now)
    × ((items : ArePolicies l.fn.policies.octets.now) → All (IsOnlyPolicy items.items) l.yielded)
