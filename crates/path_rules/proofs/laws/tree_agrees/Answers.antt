use Rattle.path_rules.proofs.TreeLemmas.{tree_agrees}
use Rattle.path_rules.specs.PolicyGraph.{Everyone}
use Rattle.path_rules.proofs.laws.tree_agrees.Goals as goal

pub returns : goal.returns
returns c = λ start last d before p. tree_agrees start Everyone last d before p
