use Rattle.x509_names.proofs.PlaceLemmas.{matched}
use Rattle.x509_names.proofs.forms.mailbox.mailboxes_match.Goals as goal

pub returns-in-Some-last_at : goal.returns-in-Some-last_at
returns-in-Some-last_at c = matched _ _ _ _ _ c.in-Some.ensures.some c.in-Some-last_at.ensures.some c.is_same_at.ensures
