use Rattle.der.specs.BytesOwned.{owned_octets}
use Rattle.der.proofs.OctetLemmas.{partial_ordering_then_counted}
use Rattle.der.proofs.comparisons.partial_order.bytes_owned_partial_ordering.Goals as goal

pub returns : goal.returns
returns c =
    rw (c.partial_cmp.ensures, c.args.a.now.counts, c.args.b.now.counts)
    (partial_ordering_then_counted (owned_octets c.args.a.now) (owned_octets c.args.b.now))
