use Rattle.schema_types.specs.Counts.{limits_at}
use Rattle.schema_types.specs.Limit.{IsLimitRow}
use Rattle.schema_types.specs.Table.{EachRow}
use Rattle.schema_types.proofs.sections.check_limits.Given as goal

abbrev pub invariant-loop-i : goal.invariant-loop-i
invariant-loop-i l = EachRow (IsLimitRow l.octets) 20 (limits_at l.fn.counts) l.i
