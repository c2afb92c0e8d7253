use Rattle.x509_names.proofs.PlaceLemmas.{parted}
use Rattle.x509_names.specs.Comparable.{HasUtf8AtomsAt}
use Rattle.x509_names.proofs.forms.utf8_mailbox.is_utf8_host_mailbox.Goals as goal

pub returns-in-Some : goal.returns-in-Some
returns-in-Some c = parted HasUtf8AtomsAt c.args.octets.now c.in-Some.at c.has_utf8_atoms_at.result c.in-Some.ensures.some c.has_utf8_atoms_at.ensures
