use Rattle.std.proofs.Common.{refl}
use Rattle.x509_names.proofs.matching.subject.mailbox_verdict.Goals as goal

pub returns : goal.returns
returns c = (_, refl, c.name_verdict.ensures)
