use Rattle.ber.proofs.BodyLemmas.{one_whole_body}
use Rattle.ber.proofs.laws.no_body_begins_another.Goals as goal

pub returns : goal.returns
returns c a b x y p q e = one_whole_body p q x y e
