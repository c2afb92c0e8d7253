use Rattle.schema_types.proofs.TagLemmas.{one_selected}
use Rattle.schema_types.proofs.laws.selections_are_single.Goals as goal

pub returns : goal.returns
returns c octets t is i class number via also m n s u = one_selected is.distinct s u
