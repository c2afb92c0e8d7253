use Rattle.std.proofs.Common.{◌∙◌, map, refl, subst}
use Rattle.std.specs.Iterator.{Yields}
use Rattle.der.specs.Prelude.{slice_state}
use Rattle.x509.proofs.FindLemmas.{gives, octets_drained}
use Rattle.x509.specs.contracts.asn1.policy_information.PolicyInformationItem.TheImpl as policy
use Rattle.x509_path.proofs.PolicyRoomLemmas.{puts_item, puts_none, puts_within}
use Rattle.x509_path.specs.PolicyFactsOf.{policy_octets, policy_of}
use Rattle.x509_path.proofs.policy_lists.put_identifiers.Goals as goal

pub policies-init : goal.policies-init
policies-init c = (refl, puts_none policy_octets c.args.room.now c.args.start c.requires)

pub put_policy-end-requires : goal.put_policy-end-requires
put_policy-end-requires c = puts_within policy_octets c.args.room.now c.policies.room c.args.start c.policies.end (map policy_of c.policies.yielded) c.policies.invariant.0 c.policies.invariant.1

pub policies-preserved : goal.policies-preserved
policies-preserved c = (
  c.put_policy-end.ensures.whole ∙ c.policies.invariant.0,
  puts_item policy_octets policy_of c.args.room.now c.policies.room c.put_policy-end.new.room c.args.start c.policies.end c.put_policy-end.result c.policies.yielded c.in-Some.policy c.octets.result
      c.policies.invariant.0 c.policies.invariant.1 c.put_policy-end.ensures.pushed c.octets.ensures.value,
)

pub returns : goal.returns
returns c =
    let start = c.into_iter-policy-iterator.ensures.into_iter_gives in
    let list = octets_drained (λ i. slice_state i.items.reader) policy.ghosts.item.valid policy.ghosts.item.octets c.args.policies.now.octets.now c.iter-policy-items.result c.policies.yielded c.policies.policy-iterator c.next.new.self c.iter-policy-items.ensures
    (subst (λ i. Yields (gives (λ i. slice_state i.items.reader) policy.ghosts.item.valid policy.ghosts.item.octets) i c.policies.yielded c.policies.policy-iterator) start c.policies.yielded_by) c.in-None.ensures.steps in
    (list, c.policies.invariant.1)
