use Rattle.std.proofs.Common.{subst}
use Rattle.std.specs.Iterator.{Yields}
use Rattle.der.specs.Prelude.{slice_state}
use Rattle.x509.specs.contracts.asn1.general_name.GeneralNameItem.TheImpl.{ghosts}
use Rattle.x509.proofs.FindLemmas.{gives, octets_drained}
use Rattle.x509_names.proofs.CheckLemmas.{and_first, and_with}
use Rattle.x509_names.proofs.TallyLemmas.{some_on}
use Rattle.x509_names.specs.Identifiers.{PresentsHost}
use Rattle.x509_names.proofs.matching.identifier.is_host_of.Goals as goal

pub names-preserved : goal.names-preserved
names-preserved c = some_on (PresentsHost c.args.host.now) c.names.found c.presents_host-found.result c.names.yielded c.in-Some.name c.names.invariant c.presents_host-found.ensures

pub returns-then-is_dns_host : goal.returns-then-is_dns_host
returns-then-is_dns_host c =
    let start = c.into_iter-name-iterator.ensures.into_iter_gives in
    record {
      names =
          octets_drained (λ i. slice_state i.items.reader) ghosts.item.valid ghosts.item.octets c.args.names.now.octets.now c.iter-name-items.result c.names.yielded c.names.name-iterator c.next.new.self c.iter-name-items.ensures
          (subst (λ i. Yields (gives (λ i. slice_state i.items.reader) ghosts.item.valid ghosts.item.octets) i c.names.yielded c.names.name-iterator) start c.names.yielded_by) c.in-None.ensures.steps;
      is = and_with c.names.found (c.is_dns_host.ensures.0 c.if-is_dns_host.true) c.names.invariant;
    }

pub returns-else-is_dns_host : goal.returns-else-is_dns_host
returns-else-is_dns_host c =
    let start = c.into_iter-name-iterator.ensures.into_iter_gives in
    record {
      names =
          octets_drained (λ i. slice_state i.items.reader) ghosts.item.valid ghosts.item.octets c.args.names.now.octets.now c.iter-name-items.result c.names.yielded c.names.name-iterator c.next.new.self c.iter-name-items.ensures
          (subst (λ i. Yields (gives (λ i. slice_state i.items.reader) ghosts.item.valid ghosts.item.octets) i c.names.yielded c.names.name-iterator) start c.names.yielded_by) c.in-None.ensures.steps;
      is = and_first c.is_dns_host.result c.if-is_dns_host.false c.is_dns_host.ensures;
    }
