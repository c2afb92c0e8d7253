use Rattle.ber.proofs.DerLemmas.{header_der}
use Rattle.ber.proofs.laws.der_headers_have_no_departures.Goals as goal

pub returns : goal.returns
returns c = header_der
