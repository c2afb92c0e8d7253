use Rattle.x509_names.proofs.CheckLemmas.{and_first, and_with, moved}
use Rattle.x509_names.specs.Mailboxes.{IsLocalPart, IsMailDomain}
use Rattle.x509_names.proofs.forms.mailbox_syntax.has_parts_at.Goals as goal

pub returns-then-is_local_part : goal.returns-then-is_local_part
returns-then-is_local_part c =
    and_with c.is_mail_domain.result ((moved IsLocalPart _ _ c.is_local_part.result c.front.ensures c.is_local_part.ensures).0 c.if-is_local_part.true)
    (moved IsMailDomain _ _ c.is_mail_domain.result c.rest.ensures c.is_mail_domain.ensures)

pub returns-else-is_local_part : goal.returns-else-is_local_part
returns-else-is_local_part c = and_first c.is_local_part.result c.if-is_local_part.false (moved IsLocalPart _ _ c.is_local_part.result c.front.ensures c.is_local_part.ensures)
