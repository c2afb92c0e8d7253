use Rattle.std.proofs.Common.{◌≡◌, [], ◌∷◌, length, true, false, refl, ap, ◌∙◌}
use Rattle.std.proofs.Math.Logic.{∥∥₁_map}
use Rattle.std.proofs.lemmas.Grind.{not_there}
use Rattle.std.proofs.lemmas.List.Elements.{All-append, All-cons, All-nil}
use Rattle.der.specs.Prelude.{rest_of, slice_state}
use Rattle.x509.proofs.ItemLemmas.{finished, stopped}
use Rattle.x509.specs.contracts.asn1.policy_information.PolicyInformationItem.TheImpl as policy
use Rattle.x509_path.proofs.ExtensionLemmas.{not_all}
use Rattle.x509_path.proofs.QualifierLemmas.{policies_apart, unqualified_keep}
use Rattle.x509_path.specs.Qualifiers.{IsUnqualified}
use Rattle.x509_path.proofs.qualifiers.are_unqualified.Given as given
use Rattle.x509_path.proofs.qualifiers.are_unqualified.Goals as goal

pub returns-then-not-is_unqualified : goal.returns-then-not-is_unqualified
returns-then-not-is_unqualified c = (
  λ e. absurd (let f : false ≡ true = e in cc),
  λ all. absurd (not_there all (λ x. not_all IsUnqualified x.0.items (length c.loop-policy.yielded)
      (stopped policy.ghosts.item.valid policy.ghosts.item.octets policies_apart IsUnqualified unqualified_keep given.iterator-loop-policy.next_gives (λ s. rest_of (slice_state s.items.reader)) (λ s v t h. (h.0, h.1.split))
      _ c.loop-policy.yielded _ _ c.loop-policy.yielded_by (ap (λ s. rest_of (slice_state s.items.reader)) c.into_iter-policy-iterator.ensures.into_iter_gives ∙ c.iter-policy-items.ensures) x.0
      c.loop-policy.invariant.2 c.in-Some.policy c.next.new.self (length c.loop-policy.yielded) c.in-Some.ensures.steps
      (λ h. (let yes = c.is_unqualified.ensures.1 h in let wrong = c.if-not-is_unqualified.true in cc)) refl)
      x.1)),
)

pub loop-policy-preserved : goal.loop-policy-preserved
loop-policy-preserved c = (
  tt,
  tt,
  All-append IsUnqualified c.loop-policy.yielded (c.in-Some.policy ∷ []) c.loop-policy.invariant.2
      (All-cons IsUnqualified c.in-Some.policy [] (c.is_unqualified.ensures.0 c.if-not-is_unqualified.false) (All-nil IsUnqualified)),
)

pub returns : goal.returns
returns c = (
  λ _. ∥∥₁_map c.args.policies.now.checked (λ l. (
    l,
    finished policy.ghosts.item.valid policy.ghosts.item.octets policies_apart IsUnqualified unqualified_keep given.iterator-loop-policy.next_gives (λ s. rest_of (slice_state s.items.reader)) (λ s v t h. (h.0, h.1.split))
        _ c.loop-policy.yielded _ _ c.loop-policy.yielded_by (ap (λ s. rest_of (slice_state s.items.reader)) c.into_iter-policy-iterator.ensures.into_iter_gives ∙ c.iter-policy-items.ensures) l
        c.loop-policy.invariant.2 c.in-None.ensures.steps.0,
  )),
  λ _. refl,
)
