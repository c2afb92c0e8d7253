use Rattle.x509_names.proofs.CheckLemmas.{and_first, and_with, moved}
use Rattle.x509_names.specs.Comparable.{IsPlainHost, IsUtf8Local}
use Rattle.x509_names.proofs.forms.utf8_mailbox.has_utf8_atoms_at.Goals as goal

pub returns-then-is_utf8_local : goal.returns-then-is_utf8_local
returns-then-is_utf8_local c =
    and_with c.is_plain_host.result ((moved IsUtf8Local _ _ c.is_utf8_local.result c.front.ensures c.is_utf8_local.ensures).0 c.if-is_utf8_local.true)
    (moved IsPlainHost _ _ c.is_plain_host.result c.rest.ensures c.is_plain_host.ensures)

pub returns-else-is_utf8_local : goal.returns-else-is_utf8_local
returns-else-is_utf8_local c = and_first c.is_utf8_local.result c.if-is_utf8_local.false (moved IsUtf8Local _ _ c.is_utf8_local.result c.front.ensures c.is_utf8_local.ensures)
