use Rattle.std.proofs.Common.{subst}
use Rattle.std.specs.Iterator.{Yields}
use Rattle.der.specs.Prelude.{slice_state}
use Rattle.x509.specs.contracts.asn1.general_name.GeneralNameItem.TheImpl.{ghosts}
use Rattle.x509.proofs.FindLemmas.{gives, octets_drained}
use Rattle.x509_names.proofs.CheckLemmas.{and_first, and_with}
use Rattle.x509_names.proofs.TallyLemmas.{some_on}
use Rattle.x509_names.specs.Identifiers.{PresentsAddress}
use Rattle.x509_names.proofs.matching.identifier.is_address_of.Goals as goal

pub names-preserved : goal.names-preserved
names-preserved c = some_on (PresentsAddress c.args.address.now) c.names.found c.presents_address-found.result c.names.yielded c.in-Some.name c.names.invariant c.presents_address-found.ensures

pub returns-then-is_address : goal.returns-then-is_address
returns-then-is_address c =
    let start = c.into_iter-name-iterator.ensures.into_iter_gives in
    record {
      names =
          octets_drained (λ i. slice_state i.items.reader) ghosts.item.valid ghosts.item.octets c.args.names.now.octets.now c.iter-name-items.result c.names.yielded c.names.name-iterator c.next.new.self c.iter-name-items.ensures
          (subst (λ i. Yields (gives (λ i. slice_state i.items.reader) ghosts.item.valid ghosts.item.octets) i c.names.yielded c.names.name-iterator) start c.names.yielded_by) c.in-None.ensures.steps;
      is = and_with c.names.found (c.is_address.ensures.0 c.if-is_address.true) c.names.invariant;
    }

pub returns-else-is_address : goal.returns-else-is_address
returns-else-is_address c =
    let start = c.into_iter-name-iterator.ensures.into_iter_gives in
    record {
      names =
          octets_drained (λ i. slice_state i.items.reader) ghosts.item.valid ghosts.item.octets c.args.names.now.octets.now c.iter-name-items.result c.names.yielded c.names.name-iterator c.next.new.self c.iter-name-items.ensures
          (subst (λ i. Yields (gives (λ i. slice_state i.items.reader) ghosts.item.valid ghosts.item.octets) i c.names.yielded c.names.name-iterator) start c.names.yielded_by) c.in-None.ensures.steps;
      is = and_first c.is_address.result c.if-is_address.false c.is_address.ensures;
    }
