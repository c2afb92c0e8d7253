use Rattle.der_base.proofs.laws.no_tag_begins_another.Goals as goal
use Rattle.der_base.proofs.TagLemmas.{tag_front}

pub returns : goal.returns
returns c t u x y e = tag_front t u x y e
