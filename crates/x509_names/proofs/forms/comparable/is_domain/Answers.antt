use Rattle.std.proofs.Common.{sym, ◌∙◌}
use Rattle.x509_names.proofs.CheckLemmas.{and_with, moved}
use Rattle.x509_names.specs.Comparable.{IsPlainHost}
use Rattle.x509_names.proofs.forms.comparable.is_domain.Goals as goal

pub returns-then-begins_with_dot : goal.returns-then-begins_with_dot
returns-then-begins_with_dot c = and_with c.is_plain_host.result (sym c.begins_with_dot.ensures ∙ c.if-begins_with_dot.true) (moved IsPlainHost _ _ c.is_plain_host.result c.rest.ensures c.is_plain_host.ensures)
