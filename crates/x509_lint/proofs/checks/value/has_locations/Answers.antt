use Rattle.x509_lint.proofs.ElementLemmas.{given_exactly}
use Rattle.x509_lint.proofs.checks.value.has_locations.Goals as goal

pub returns-else-not-is_access : goal.returns-else-not-is_access
returns-else-not-is_access c = given_exactly c.groups_keep.result (c.is_access.ensures.0 c.if-not-is_access.false) c.groups_keep.ensures
