use Rattle.ber.proofs.BodyLemmas.{one_whole}
use Rattle.ber.proofs.laws.no_whole_begins_another.Goals as goal

pub returns : goal.returns
returns c a b x y p q e = one_whole p q x y e
