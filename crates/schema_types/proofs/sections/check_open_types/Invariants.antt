use Rattle.schema_types.specs.Counts.{opens_at}
use Rattle.schema_types.specs.OpenType.{IsOpenTypeRow}
use Rattle.schema_types.specs.Table.{EachRow}
use Rattle.schema_types.proofs.sections.check_open_types.Given as goal

abbrev pub invariant-loop-i : goal.invariant-loop-i
invariant-loop-i l = EachRow (IsOpenTypeRow l.counts l.pool l.octets) 12 (opens_at l.counts) l.i
