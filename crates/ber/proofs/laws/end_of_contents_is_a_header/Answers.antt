use Rattle.ber.proofs.HeaderLemmas.{end_header_next}
use Rattle.ber.proofs.laws.end_of_contents_is_a_header.Goals as goal

pub returns : goal.returns
returns c = end_header_next
