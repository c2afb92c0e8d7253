use Rattle.x509_names.proofs.PlaceLemmas.{parted}
use Rattle.x509_names.specs.Comparable.{HasAtomsAt}
use Rattle.x509_names.proofs.forms.comparable.is_host_mailbox.Goals as goal

pub returns-in-Some : goal.returns-in-Some
returns-in-Some c = parted HasAtomsAt c.args.octets.now c.in-Some.at c.has_atoms_at.result c.in-Some.ensures.some c.has_atoms_at.ensures
