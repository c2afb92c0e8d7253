use Rattle.path_rules.proofs.TreeLemmas.{tree_agrees}
use Rattle.path_rules.specs.Policies.{Allows}
use Rattle.path_rules.proofs.laws.allowed_tree_agrees.Goals as goal

pub returns : goal.returns
returns c = λ start allowed last d before p. tree_agrees start (Allows allowed) last d before p
