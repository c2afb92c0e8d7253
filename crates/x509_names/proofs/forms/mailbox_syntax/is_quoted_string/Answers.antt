use Rattle.x509_names.proofs.CheckLemmas.{and_first, and_with}
use Rattle.x509_names.proofs.forms.mailbox_syntax.is_quoted_string.Goals as goal

pub returns-then-has_quotes : goal.returns-then-has_quotes
returns-then-has_quotes c = and_with c.is_inside_quoted.result (c.has_quotes.ensures.0 c.if-has_quotes.true) c.is_inside_quoted.ensures

pub returns-else-has_quotes : goal.returns-else-has_quotes
returns-else-has_quotes c = and_first c.has_quotes.result c.if-has_quotes.false c.has_quotes.ensures
