use Rattle.x509_lint.proofs.ElementLemmas.{and_with}
use Rattle.x509_lint.proofs.checks.value_types.has_value_of_type.Goals as goal

pub returns-then-has_places : goal.returns-then-has_places
returns-then-has_places c = and_with c.has_policies_and_keys.result (c.has_places.ensures.0 c.if-has_places.true) c.has_policies_and_keys.ensures
