use Rattle.x509_names.proofs.CheckLemmas.{and_first, and_with}
use Rattle.x509_names.proofs.forms.uri_syntax.is_uri.Goals as goal

pub returns-then-has_scheme : goal.returns-then-has_scheme
returns-then-has_scheme c = and_with c.has_parts.result (c.has_scheme.ensures.0 c.if-has_scheme.true) c.has_parts.ensures

pub returns-else-has_scheme : goal.returns-else-has_scheme
returns-else-has_scheme c = and_first c.has_scheme.result c.if-has_scheme.false c.has_scheme.ensures
