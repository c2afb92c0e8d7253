use Rattle.der_base.specs.ScanGrammar.{BodyFault}
use Rattle.der_base.proofs.laws.headers_are_a_grammar.Goals as goal
use Rattle.der_base.proofs.HeaderLemmas.{header_grammar}
use Rattle.der_base.proofs.ScanLemmas.{body_fault_laws}

pub returns : goal.returns
returns c = header_grammar BodyFault body_fault_laws
