use Rattle.schema_types.specs.Named.{NoneIsNamed}
use Rattle.schema_types.proofs.find.find_node.Given as goal

abbrev pub invariant-loop-i : goal.invariant-loop-i
invariant-loop-i l = NoneIsNamed l.fn.counts l.octets l.name l.i
