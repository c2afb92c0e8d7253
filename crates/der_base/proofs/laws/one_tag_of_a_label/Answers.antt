use Rattle.der_base.proofs.laws.one_tag_of_a_label.Goals as goal
use Rattle.der_base.proofs.TagLemmas.{same_label}

pub returns : goal.returns
returns c t u e = same_label t u e
