use Rattle.std.proofs.Common.{subst}
use Rattle.std.specs.Iterator.{Yields}
use Rattle.der.specs.Prelude.{slice_state}
use Rattle.x509.specs.contracts.asn1.relative_distinguished_name.RelativeDistinguishedNameItem.TheImpl.{ghosts}
use Rattle.x509.proofs.FindLemmas.{gives, octets_drained}
use Rattle.x509.proofs.NameLemmas.{finds_on}
use Rattle.x509.proofs.asn1.name.Name.get.Goals as goal

pub levels-preserved : goal.levels-preserved
levels-preserved c = finds_on c.in-Some.level c.levels.invariant c.get-others.ensures c.and-found.result c.and-found.ensures

pub returns : goal.returns
returns c =
    let start = c.into_iter-level-iterator.ensures.into_iter_gives in
    record {
      levels =
          octets_drained (λ i. slice_state i.items.reader) ghosts.item.valid ghosts.item.octets c.args.self.now.levels.octets.now c.iter-level-items.result c.levels.yielded c.levels.level-iterator c.next.new.self c.iter-level-items.ensures
          (subst (λ i. Yields (gives (λ i. slice_state i.items.reader) ghosts.item.valid ghosts.item.octets) i c.levels.yielded c.levels.level-iterator) start c.levels.yielded_by) c.in-None.ensures.steps;
      attributes = c.levels.invariant.attributes;
      all = c.levels.invariant.all;
      only = c.levels.invariant.only;
    }
