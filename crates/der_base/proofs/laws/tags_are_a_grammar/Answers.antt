use Rattle.der_base.proofs.laws.tags_are_a_grammar.Goals as goal
use Rattle.der_base.proofs.HeaderLemmas.{tag_grammar}

pub returns : goal.returns
returns c = tag_grammar
