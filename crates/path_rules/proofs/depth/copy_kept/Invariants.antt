use Rattle.std.proofs.Common.{take}
use Rattle.path_rules.specs.Growth.{Fills, IsKept}
use Rattle.path_rules.specs.Nodes.{HasAllowed, HasNode}
use Rattle.path_rules.proofs.depth.copy_kept.Given as goal

abbrev pub invariant-loop-node : goal.invariant-loop-node
invariant-loop-node l =
    Fills l.initial.room l.room 0 l.count l.node-index
    (λ p. IsKept l.filter p × HasNode (take l.node-index l.nodes) p)
    (λ p. IsKept l.filter p × HasAllowed (take l.node-index l.nodes) p)
