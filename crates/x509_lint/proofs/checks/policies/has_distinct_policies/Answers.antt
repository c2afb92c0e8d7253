use Rattle.x509_lint.proofs.FirstLemmas.{none_exactly}
use Rattle.x509_lint.specs.PolicyChecks.{IsOnlyPolicy, IsPolicy, policy_encoding}
use Rattle.x509_lint.proofs.checks.policies.has_distinct_policies.Goals as goal

pub returns : goal.returns
returns c =
    none_exactly IsPolicy policy_encoding c.args.policies.now.octets.now IsOnlyPolicy c.first_repeated_policy.result c.is_none.result
    c.is_none.ensures c.args.policies.now.checked c.first_repeated_policy.ensures
