use Rattle.der_base.proofs.ScanLemmas.{body_grammar}
use Rattle.der_base.proofs.laws.bodies_are_a_grammar.Goals as goal

pub returns : goal.returns
returns c = body_grammar
