use Rattle.schema_types.specs.Table.{table_in}
use Rattle.schema_types.specs.Numbered.{AreOfOthers}
use Rattle.schema_types.proofs.schema.Schema.name_of_number.Given as goal

abbrev pub invariant-loop-k : goal.invariant-loop-k
invariant-loop-k l = AreOfOthers (table_in l.self.octets.now) l.fn.names.start l.k l.number
