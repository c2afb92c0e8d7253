use Rattle.std.proofs.Common.{◌≡◌, drop}
use Rattle.schema_rules.specs.Small.{are_printing}
use Rattle.schema_rules.proofs.characters.are_printing.Given as goal

abbrev pub invariant-loop-octet : goal.invariant-loop-octet
invariant-loop-octet l = are_printing l.contents ≡ are_printing (drop l.octet-index l.contents)
