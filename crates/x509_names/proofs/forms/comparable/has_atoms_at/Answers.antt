use Rattle.x509_names.proofs.CheckLemmas.{and_first, and_with, moved}
use Rattle.x509_names.specs.Comparable.{IsPlainHost}
use Rattle.x509_names.specs.Mailboxes.{IsDotString}
use Rattle.x509_names.proofs.forms.comparable.has_atoms_at.Goals as goal

pub returns-then-is_dot_string : goal.returns-then-is_dot_string
returns-then-is_dot_string c =
    and_with c.is_plain_host.result ((moved IsDotString _ _ c.is_dot_string.result c.front.ensures c.is_dot_string.ensures).0 c.if-is_dot_string.true)
    (moved IsPlainHost _ _ c.is_plain_host.result c.rest.ensures c.is_plain_host.ensures)

pub returns-else-is_dot_string : goal.returns-else-is_dot_string
returns-else-is_dot_string c = and_first c.is_dot_string.result c.if-is_dot_string.false (moved IsDotString _ _ c.is_dot_string.result c.front.ensures c.is_dot_string.ensures)
