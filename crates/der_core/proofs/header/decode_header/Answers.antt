use Rattle.der_core.proofs.HeaderReadLemmas.{raw_header_consumed}
use Rattle.der_core.proofs.DecodeLemmas.{decoded_ok}
use Rattle.der_core.proofs.header.decode_header.Goals as goal

pub returns : goal.returns
returns g c =
    decoded_ok c.in_ok-identifier.ensures.same (raw_header_consumed c.in_ok-identifier.identifier c.header_from_identifier.ensures c.in_ok-identifier.ensures.ok)
