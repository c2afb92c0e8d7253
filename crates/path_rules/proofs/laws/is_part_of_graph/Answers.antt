use Rattle.path_rules.proofs.RefusalLemmas.{more_nodes}
use Rattle.path_rules.specs.Policies.{Allows}
use Rattle.path_rules.specs.PolicyGraph.{Everyone}
use Rattle.path_rules.proofs.laws.is_part_of_graph.Goals as goal

pub returns : goal.returns
returns c = λ start allowed last d before p h. more_nodes start (Allows allowed) Everyone (λ _ _. tt) last d before p h
