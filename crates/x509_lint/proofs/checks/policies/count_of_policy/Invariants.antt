use Rattle.std.proofs.Common.{◌≡◌, ◌≤◌, ◌+◌, length, count_by}
use Rattle.std.specs.Str.{bytes_eq}
use Rattle.x509_lint.proofs.checks.policies.count_of_policy.Given as goal

abbrev pub invariant-loop-policy : goal.invariant-loop-policy
invariant-loop-policy l =
    (goal.iterator-loop-policy).can_next l.policy-iterator ×
    (goal.iterator-loop-policy).is_finite l.policy-iterator
    × (l.count ≡ count_by (λ v. bytes_eq v.policy_identifier.octets.now l.fn.id) l.yielded)
    × (l.count + goal.iterator-loop-policy.remaining l.policy-iterator ≤ length l.fn.policies.octets.now)
