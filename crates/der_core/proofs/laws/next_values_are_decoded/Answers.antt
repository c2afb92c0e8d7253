use Rattle.der_base.specs.ScanGrammar.{BodyFault}
use Rattle.der_base.proofs.HeaderLemmas.{identifier_grammar, tag_grammar, length_grammar}
use Rattle.der_base.proofs.ScanLemmas.{body_fault_laws}
use Rattle.der_core.proofs.DecodeLemmas.{accepts}
use Rattle.der_core.proofs.HeaderReadLemmas.{decoded_header_grammar}
use Rattle.der_core.proofs.laws.next_values_are_decoded.Goals as goal

pub returns-clause-identifiers : goal.returns-clause-identifiers
returns-clause-identifiers c = accepts identifier_grammar

pub returns-clause-tags : goal.returns-clause-tags
returns-clause-tags c = accepts tag_grammar

pub returns-clause-lengths : goal.returns-clause-lengths
returns-clause-lengths c wrong = accepts (length_grammar BodyFault body_fault_laws wrong)

pub returns-clause-headers : goal.returns-clause-headers
returns-clause-headers c = accepts decoded_header_grammar
