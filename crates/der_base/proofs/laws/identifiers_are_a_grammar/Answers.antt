use Rattle.der_base.proofs.laws.identifiers_are_a_grammar.Goals as goal
use Rattle.der_base.proofs.HeaderLemmas.{identifier_grammar}

pub returns : goal.returns
returns c = identifier_grammar
