use Rattle.std.proofs.Common.{◌≡◌, false, true}
use Rattle.x509_names.proofs.PlaceLemmas.{parted}
use Rattle.x509_names.specs.Mailboxes.{HasPartsAt}
use Rattle.x509_names.proofs.forms.mailbox_syntax.is_mailbox.Goals as goal

pub returns-in-Some : goal.returns-in-Some
returns-in-Some c = parted HasPartsAt c.args.octets.now c.in-Some.at c.has_parts_at.result c.in-Some.ensures.some c.has_parts_at.ensures

pub returns-in-None : goal.returns-in-None
returns-in-None c = (λ e. absurd (let no : false ≡ true = e in cc), λ m. absurd (c.in-None.ensures.none m.0 m.1.0 m.1.1))
