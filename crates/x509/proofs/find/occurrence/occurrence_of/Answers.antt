use Rattle.std.proofs.Common.{◌≡◌, true, ap, sym, ◌∙◌, subst}
use Rattle.std.specs.Iterator.{Yields}
use Rattle.std.specs.Prelude.{bytes_eq}
use Rattle.der.specs.Prelude.{slice_state}
use Rattle.x509.proofs.FindLemmas.{gives, items_drained, occurrence_more}
use Rattle.x509.proofs.find.occurrence.occurrence_of.Goals as goal

pub items-preserved-then-eq : goal.items-preserved-then-eq
items-preserved-then-eq g c =
    let same : bytes_eq (g.T.Typed.type_octets c.in-Some.item) c.args.oid.now ≡ true = ap (λ x. bytes_eq x c.args.oid.now) (sym c.type_octets.ensures) ∙ sym c.eq.ensures ∙ c.if-eq.true in
    occurrence_more g.T.Typed.type_octets c.args.oid.now c.items.yielded c.in-Some.item c.items.found c.with-found.result same c.items.invariant c.with-found.ensures

pub returns : goal.returns
returns g c =
    record {
      list =
          items_drained (λ i. slice_state i.items.reader) g.T.Item.item.valid g.T.Item.item.octets c.args.items c.items.yielded c.items.item-iterator c.next.new.self
          (subst (λ i. Yields (gives (λ i. slice_state i.items.reader) g.T.Item.item.valid g.T.Item.item.octets) i c.items.yielded c.items.item-iterator) c.into_iter-item-iterator.ensures.into_iter_gives c.items.yielded_by) c.in-None.ensures.steps;
      only = c.items.invariant;
    }
