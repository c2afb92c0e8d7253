use Rattle.ber.proofs.GrammarLemmas.{one_header}
use Rattle.ber.proofs.laws.no_header_begins_another.Goals as goal

pub returns : goal.returns
returns c h g a b x y p q e = one_header p q x y e
