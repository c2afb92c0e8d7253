use Rattle.std.proofs.Common.{IsTrue, take}
use Rattle.path_rules.specs.Growth.{Fills, IsTarget}
use Rattle.path_rules.specs.Nodes.{HasAllowed, HasNode}
use Rattle.path_rules.specs.Policies.{Allows}
use Rattle.path_rules.specs.PolicyGraph.{Everyone}
use Rattle.path_rules.proofs.targets.add_targets.Given as goal

abbrev pub invariant-loop-mapping : goal.invariant-loop-mapping
invariant-loop-mapping l =
    Fills l.initial.room l.room l.start l.count l.mapping-index
    (IsTarget (IsTrue l.has_any) (take l.mapping-index l.mappings) Everyone (HasNode l.nodes) (HasNode l.nodes))
    (IsTarget (IsTrue l.has_any) (take l.mapping-index l.mappings) (Allows l.allowed) (HasAllowed l.nodes) (HasNode l.nodes))
