use Rattle.x509_lint.proofs.ElementLemmas.{given_exactly}
use Rattle.x509_lint.proofs.checks.value.has_points_of.Goals as goal

pub returns-else-not-is_points : goal.returns-else-not-is_points
returns-else-not-is_points c = given_exactly c.points_keep.result (c.is_points.ensures.0 c.if-not-is_points.false) c.points_keep.ensures
