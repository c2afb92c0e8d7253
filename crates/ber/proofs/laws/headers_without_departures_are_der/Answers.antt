use Rattle.ber.proofs.DerLemmas.{der_header}
use Rattle.ber.proofs.laws.headers_without_departures_are_der.Goals as goal

pub returns : goal.returns
returns c = der_header
