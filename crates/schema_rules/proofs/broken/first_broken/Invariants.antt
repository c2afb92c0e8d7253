use Rattle.std.proofs.Common.{take}
use Rattle.schema_rules.specs.Contents.{KeepsAll}
use Rattle.schema_rules.proofs.broken.first_broken.Given as goal

abbrev pub invariant-loop-rule : goal.invariant-loop-rule
invariant-loop-rule l = KeepsAll (take l.rule-index l.rules) l.contents
