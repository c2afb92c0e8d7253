use Rattle.std.proofs.Common.{◌∙◌}
use Rattle.x509_lint.proofs.ElementLemmas.{given_exactly}
use Rattle.x509_lint.proofs.checks.value.has_bases_of.Goals as goal

pub returns-else-not-is : goal.returns-else-not-is
returns-else-not-is c = given_exactly c.bases_keep.result (c.is.ensures.0 c.if-not-is.false ∙ c.id_ce_name_constraints.ensures) c.bases_keep.ensures
