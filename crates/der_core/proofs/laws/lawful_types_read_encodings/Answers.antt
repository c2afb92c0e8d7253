use Rattle.der_core.proofs.LawfulLemmas.{elements_are_encodings, passed_encodings, whole_encodings, written_is_read}
use Rattle.der_core.proofs.laws.lawful_types_read_encodings.Goals as goal

pub returns-clause-front : goal.returns-clause-front
returns-clause-front g c = elements_are_encodings g.met.T.Lawful.lawful

pub returns-clause-whole : goal.returns-clause-whole
returns-clause-whole g c = whole_encodings (elements_are_encodings g.met.T.Lawful.lawful)

pub returns-clause-written : goal.returns-clause-written
returns-clause-written g c = written_is_read g.met.T.Lawful.lawful

pub returns-clause-passed : goal.returns-clause-passed
returns-clause-passed g c = passed_encodings (elements_are_encodings g.met.T.Lawful.lawful)
