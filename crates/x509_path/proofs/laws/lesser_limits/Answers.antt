use Rattle.x509_path.proofs.LimitLemmas.{both_rooms}
use Rattle.x509_path.proofs.laws.lesser_limits.Goals as goal

pub returns : goal.returns
returns c = both_rooms
