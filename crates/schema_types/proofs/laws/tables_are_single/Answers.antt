use Rattle.std.proofs.Common.{sym, ◌∙◌}
use Rattle.schema_types.proofs.laws.tables_are_single.Goals as goal

pub returns : goal.returns
returns c octets t u is also = is.table ∙ sym also.table
