use Rattle.x509_names.proofs.WalkLemmas.{and_with}
use Rattle.x509_names.proofs.matching.level.levels_agree.Goals as goal

pub returns-then-are_as_many : goal.returns-then-are_as_many
returns-then-are_as_many c = and_with c.have_matches.result (c.are_as_many.ensures.0 c.if-are_as_many.true) c.have_matches.ensures
