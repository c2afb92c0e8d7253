use Rattle.schema_types.specs.Counts.{fields_at}
use Rattle.schema_types.specs.Field.{IsFieldRow}
use Rattle.schema_types.specs.Table.{EachRow}
use Rattle.schema_types.proofs.sections.check_fields.Given as goal

abbrev pub invariant-loop-i : goal.invariant-loop-i
invariant-loop-i l = EachRow (IsFieldRow l.counts l.pool l.octets) 28 (fields_at l.counts) l.i
