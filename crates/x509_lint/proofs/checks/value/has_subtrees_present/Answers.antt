use Rattle.std.proofs.Common.{◌∙◌}
use Rattle.x509_lint.proofs.ElementLemmas.{given_exactly}
use Rattle.x509_lint.proofs.checks.value.has_subtrees_present.Goals as goal

pub returns-else-not-is : goal.returns-else-not-is
returns-else-not-is c = given_exactly c.parts_keep.result (c.is.ensures.0 c.if-not-is.false ∙ c.id_ce_name_constraints.ensures) c.parts_keep.ensures
