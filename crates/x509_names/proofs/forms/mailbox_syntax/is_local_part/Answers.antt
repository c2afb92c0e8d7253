use Rattle.x509_names.proofs.CheckLemmas.{fails, or_with}
use Rattle.x509_names.proofs.forms.mailbox_syntax.is_local_part.Goals as goal

pub returns-else-is_dot_string : goal.returns-else-is_dot_string
returns-else-is_dot_string c = or_with c.is_quoted_string.result (fails c.is_dot_string.result c.if-is_dot_string.false c.is_dot_string.ensures) c.is_quoted_string.ensures
