use Rattle.std.specs.Iterator.{IsFinite}
use Rattle.der_core.proofs.ItemLemmas.{Matched}
use Rattle.der_core.proofs.ord.items.owned.iter_cmp_owned.Given as goal

abbrev pub invariant-loop-x : goal.invariant-loop-x
invariant-loop-x g l =
    let order = g.T.DerOrd in
    record {
      next_of_these : g.A.Iterator.can_next l.a;
      next_of_those : g.B.Iterator.can_next l.b;
      these_end : IsFinite (g.A.Iterator.remaining l.a);
      those_end : IsFinite (g.B.Iterator.remaining l.b);
      matched : Matched (λ x. x) (record { order = order.order; octets = order.octets; by_octets = order.by_octets; has_header = order.has_header; delimits = order.delimits }) g.A.Iterator.next_gives g.B.Iterator.next_gives l.fn.a l.fn.b l.a l.b;
    }
