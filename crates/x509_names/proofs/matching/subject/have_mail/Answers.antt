use Rattle.std.proofs.Common.{subst}
use Rattle.std.specs.Iterator.{Yields}
use Rattle.der.specs.Prelude.{slice_state}
use Rattle.x509.specs.contracts.asn1.general_name.GeneralNameItem.TheImpl.{ghosts}
use Rattle.x509.proofs.FindLemmas.{gives, octets_drained}
use Rattle.x509_names.proofs.TallyLemmas.{some_on}
use Rattle.x509_names.specs.Subjects.{IsRfc822Name}
use Rattle.x509_names.proofs.matching.subject.have_mail.Goals as goal

pub names-preserved : goal.names-preserved
names-preserved c = some_on IsRfc822Name c.names.found c.is_rfc822_name-found.result c.names.yielded c.in-Some.name c.names.invariant c.is_rfc822_name-found.ensures

pub returns : goal.returns
returns c =
    let start = c.into_iter-name-iterator.ensures.into_iter_gives in
    record {
      names =
          octets_drained (λ i. slice_state i.items.reader) ghosts.item.valid ghosts.item.octets c.args.names.now.octets.now c.iter-name-items.result c.names.yielded c.names.name-iterator c.next.new.self c.iter-name-items.ensures
          (subst (λ i. Yields (gives (λ i. slice_state i.items.reader) ghosts.item.valid ghosts.item.octets) i c.names.yielded c.names.name-iterator) start c.names.yielded_by) c.in-None.ensures.steps;
      is = c.names.invariant;
    }
