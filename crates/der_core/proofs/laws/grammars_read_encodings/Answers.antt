use Rattle.der_core.proofs.ExactLemmas.{tags_exactly, lengths_exactly, headers_exactly, nothing_exactly}
use Rattle.der_core.proofs.laws.grammars_read_encodings.Goals as goal

pub returns-clause-tags : goal.returns-clause-tags
returns-clause-tags g c = tags_exactly

pub returns-clause-lengths : goal.returns-clause-lengths
returns-clause-lengths g c = lengths_exactly

pub returns-clause-headers : goal.returns-clause-headers
returns-clause-headers g c = headers_exactly

pub returns-clause-nothing : goal.returns-clause-nothing
returns-clause-nothing g c = nothing_exactly
