use Rattle.std.proofs.Common.{[], ◌∷◌, ap, ◌∙◌, arith}
use Rattle.std.proofs.lemmas.List.{length_push}
use Rattle.std.proofs.lemmas.List.Elements.{All-append, All-cons, All-nil}
use Rattle.der.specs.Prelude.{rest_of, slice_state}
use Rattle.x509.proofs.ItemLemmas.{finished, stopped}
use Rattle.x509_lint.proofs.PolicyLemmas.{policies_apart, policy_keep}
use Rattle.x509_lint.specs.PolicyChecks.{IsOnlyPolicy, IsPolicy, policy_encoding}
use Rattle.x509_lint.proofs.checks.policies.first_repeated_policy.Given as given
use Rattle.x509_lint.proofs.checks.policies.first_repeated_policy.Goals as goal

pub returns-then-not-is_only : goal.returns-then-not-is_only
returns-then-not-is_only c l =
    stopped IsPolicy policy_encoding policies_apart (IsOnlyPolicy l.items) (policy_keep l.items) given.iterator-loop-policy.next_gives (λ s. rest_of (slice_state s.items.reader)) (λ s v t h. (h.0, h.1.split))
    _ c.loop-policy.yielded _ _ c.loop-policy.yielded_by (ap (λ s. rest_of (slice_state s.items.reader)) c.into_iter-policy-iterator.ensures.into_iter_gives ∙ c.iter-policy-items.ensures) l
    (c.loop-policy.invariant.4 l) c.in-Some.policy c.next.new.self c.loop-policy.place c.in-Some.ensures.steps
    (λ h. (let yes = (c.is_only.ensures l).1 h in let no = c.if-not-is_only.true in cc)) c.loop-policy.invariant.2

pub loop-policy-preserved : goal.loop-policy-preserved
loop-policy-preserved c =
    let fewer = (c.in-Some.ensures.goes.on c.loop-policy.invariant.1).2 in
    let longer = length_push c.loop-policy.yielded c.in-Some.policy in (
      tt,
      tt,
      omega (arith, longer, c.loop-policy.invariant.2),
      omega (arith, fewer, c.loop-policy.invariant.3),
      λ l. All-append (IsOnlyPolicy l.items) c.loop-policy.yielded (c.in-Some.policy ∷ []) (c.loop-policy.invariant.4 l) (All-cons (IsOnlyPolicy l.items) c.in-Some.policy [] ((c.is_only.ensures l).0 c.if-not-is_only.false) (All-nil (IsOnlyPolicy l.items))),
    )

pub returns : goal.returns
returns c l =
    finished IsPolicy policy_encoding policies_apart (IsOnlyPolicy l.items) (policy_keep l.items) given.iterator-loop-policy.next_gives (λ s. rest_of (slice_state s.items.reader)) (λ s v t h. (h.0, h.1.split))
    _ c.loop-policy.yielded _ _ c.loop-policy.yielded_by (ap (λ s. rest_of (slice_state s.items.reader)) c.into_iter-policy-iterator.ensures.into_iter_gives ∙ c.iter-policy-items.ensures) l
    (c.loop-policy.invariant.4 l) c.in-None.ensures.steps.0
