use Rattle.std.proofs.Common.{◌∙◌, map, refl, subst}
use Rattle.std.specs.Iterator.{Yields}
use Rattle.der.specs.Prelude.{slice_state}
use Rattle.x509.proofs.FindLemmas.{gives, octets_drained}
use Rattle.x509.specs.contracts.asn1.policy_mapping.PolicyMappingItem.TheImpl as mapping
use Rattle.x509_path.proofs.PolicyRoomLemmas.{puts_item, puts_none, puts_within}
use Rattle.x509_path.specs.PolicyFactsOf.{mapping_octets, pair_of}
use Rattle.x509_path.proofs.policy_lists.put_pairs.Goals as goal

pub mappings-init : goal.mappings-init
mappings-init c = (refl, puts_none mapping_octets c.args.room.now c.args.start c.requires)

pub put_mapping-end-requires : goal.put_mapping-end-requires
put_mapping-end-requires c = puts_within mapping_octets c.args.room.now c.mappings.room c.args.start c.mappings.end (map pair_of c.mappings.yielded) c.mappings.invariant.0 c.mappings.invariant.1

pub mappings-preserved : goal.mappings-preserved
mappings-preserved c = (
  c.put_mapping-end.ensures.whole ∙ c.mappings.invariant.0,
  puts_item mapping_octets pair_of c.args.room.now c.mappings.room c.put_mapping-end.new.room c.args.start c.mappings.end c.put_mapping-end.result c.mappings.yielded c.in-Some.mapping c.mapping_from.result
      c.mappings.invariant.0 c.mappings.invariant.1 c.put_mapping-end.ensures.pushed c.mapping_from.ensures,
)

pub returns : goal.returns
returns c =
    let start = c.into_iter-mapping-iterator.ensures.into_iter_gives in
    let list = octets_drained (λ i. slice_state i.items.reader) mapping.ghosts.item.valid mapping.ghosts.item.octets c.args.mappings.now.octets.now c.iter-mapping-items.result c.mappings.yielded c.mappings.mapping-iterator c.next.new.self c.iter-mapping-items.ensures
    (subst (λ i. Yields (gives (λ i. slice_state i.items.reader) mapping.ghosts.item.valid mapping.ghosts.item.octets) i c.mappings.yielded c.mappings.mapping-iterator) start c.mappings.yielded_by) c.in-None.ensures.steps in
    (list, c.mappings.invariant.1)
