use Rattle.std.proofs.Common.{ap, ◌∙◌}
use Rattle.std.specs.Str.{bytes_eq}
use Rattle.der.specs.Prelude.{rest_of, slice_state}
use Rattle.x509.proofs.ItemLemmas.{counted}
use Rattle.x509_lint.proofs.PolicyLemmas.{policies_apart, policy_same}
use Rattle.x509_lint.specs.PolicyChecks.{IsPolicy, policy_encoding}
use Rattle.x509_lint.proofs.checks.policies.count_of_policy.Given as given
use Rattle.x509_lint.proofs.checks.policies.count_of_policy.Goals as goal

pub returns : goal.returns
returns c l =
    c.loop-policy.invariant.2
    ∙ counted IsPolicy policy_encoding policies_apart (λ v. bytes_eq v.policy_identifier.octets.now c.args.id.now)
    (λ v w is are e. ap (λ o. bytes_eq o c.args.id.now) (policy_same v w e)) given.iterator-loop-policy.next_gives (λ s. rest_of (slice_state s.items.reader)) (λ s v t h. (h.0, h.1.split))
    _ c.loop-policy.yielded _ _ c.loop-policy.yielded_by (ap (λ s. rest_of (slice_state s.items.reader)) c.into_iter-policy-iterator.ensures.into_iter_gives ∙ c.iter-policy-items.ensures) l
    c.in-None.ensures.steps.0
