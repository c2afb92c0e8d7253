use Rattle.der_base.specs.ScanGrammar.{BodyFault}
use Rattle.der_base.proofs.laws.lengths_are_a_grammar.Goals as goal
use Rattle.der_base.proofs.HeaderLemmas.{length_grammar}
use Rattle.der_base.proofs.ScanLemmas.{body_fault_laws}

pub returns : goal.returns
returns c wrong = length_grammar BodyFault body_fault_laws wrong
