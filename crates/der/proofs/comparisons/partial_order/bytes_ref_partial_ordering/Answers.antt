use Rattle.std.proofs.Common.{◌∙◌}
use Rattle.der.specs.BytesRef.{reference_octets}
use Rattle.der.proofs.OctetLemmas.{slice_partial_cmp_octets}
use Rattle.der.proofs.comparisons.partial_order.bytes_ref_partial_ordering.Goals as goal

pub returns : goal.returns
returns c =
    c.partial_cmp.ensures
    ∙ slice_partial_cmp_octets (reference_octets c.args.a.now) (reference_octets c.args.b.now)
