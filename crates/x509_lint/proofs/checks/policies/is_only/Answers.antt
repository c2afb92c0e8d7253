use Rattle.std.proofs.Common.{◌≡◌, ◌≤◌, sym, ap, subst, ◌∙◌, leb-true}
use Rattle.std.proofs.lemmas.Bool.{le-leb}
use Rattle.x509_lint.specs.PolicyChecks.{policy_instances}
use Rattle.x509_lint.proofs.checks.policies.is_only.Goals as goal

pub returns : goal.returns
returns c l =
    let same : c.count_of_policy.result ≡ policy_instances c.args.policy.now.policy_identifier.octets.now l.items = c.count_of_policy.ensures l ∙ ap (λ i. policy_instances i l.items) c.octets.ensures.value in (
      λ e. subst (λ n. n ≤ 1) same (leb-true c.count_of_policy.result 1 e),
      λ h. le-leb c.count_of_policy.result 1 (subst (λ n. n ≤ 1) (sym same) h),
    )
