use Rattle.std.proofs.Common.{subst}
use Rattle.std.specs.Iterator.{Yields}
use Rattle.der.specs.Prelude.{slice_state}
use Rattle.x509.specs.contracts.asn1.general_subtree.GeneralSubtreeItem.TheImpl.{ghosts}
use Rattle.x509.proofs.FindLemmas.{gives, octets_drained}
use Rattle.x509_names.proofs.TallyLemmas.{some_on}
use Rattle.x509_names.specs.Constraints.{Concerns, Contains, ContainsPart, IsUnclear}
use Rattle.x509_names.proofs.matching.tally.tally_of.Goals as goal

pub subtrees-preserved : goal.subtrees-preserved
subtrees-preserved c =
    let s = c.in-Some.subtree in
    let name = c.args.name.now in
    record {
      concerned = some_on (Concerns name) c.subtrees.concerned c.is_concerned-concerned.result c.subtrees.yielded s c.subtrees.invariant.concerned c.is_concerned-concerned.ensures;
      within = some_on (Contains name) c.subtrees.within c.is_within_base-within.result c.subtrees.yielded s c.subtrees.invariant.within c.is_within_base-within.ensures;
      partly = some_on (ContainsPart name) c.subtrees.partly c.is_partly_within_base-partly.result c.subtrees.yielded s c.subtrees.invariant.partly c.is_partly_within_base-partly.ensures;
      unclear = some_on (IsUnclear name) c.subtrees.unclear c.is_unclear-unclear.result c.subtrees.yielded s c.subtrees.invariant.unclear c.is_unclear-unclear.ensures;
    }

pub returns : goal.returns
returns c =
    let start = c.into_iter-subtree-iterator.ensures.into_iter_gives in
    record {
      list =
          octets_drained (λ i. slice_state i.items.reader) ghosts.item.valid ghosts.item.octets c.args.subtrees.now.items.octets.now c.iter-subtree-items.result c.subtrees.yielded c.subtrees.subtree-iterator c.next.new.self c.iter-subtree-items.ensures
          (subst (λ i. Yields (gives (λ i. slice_state i.items.reader) ghosts.item.valid ghosts.item.octets) i c.subtrees.yielded c.subtrees.subtree-iterator) start c.subtrees.yielded_by) c.in-None.ensures.steps;
      answers = c.subtrees.invariant;
    }
