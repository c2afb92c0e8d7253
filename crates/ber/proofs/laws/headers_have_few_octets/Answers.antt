use Rattle.ber.proofs.GrammarLemmas.{header_two, header_few}
use Rattle.ber.proofs.laws.headers_have_few_octets.Goals as goal

pub returns : goal.returns
returns c h octets is = (header_two is, header_few is)
