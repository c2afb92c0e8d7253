use Rattle.schema_types.specs.Counts.{names_at}
use Rattle.schema_types.specs.Name.{IsNameRow}
use Rattle.schema_types.specs.Table.{EachRow}
use Rattle.schema_types.proofs.sections.check_names.Given as goal

abbrev pub invariant-loop-i : goal.invariant-loop-i
invariant-loop-i l = EachRow (IsNameRow l.pool l.octets) 16 (names_at l.fn.counts) l.i
