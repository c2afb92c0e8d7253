use Rattle.std.proofs.Common.{All, take}
use Rattle.path_rules.specs.Path.{Asks}
use Rattle.path_rules.proofs.keeps.first_broken.Given as goal

abbrev pub invariant-loop-rule : goal.invariant-loop-rule
invariant-loop-rule l = All (λ r. Asks r l.facts l.issues l.left) (take l.rule-index l.rules)
