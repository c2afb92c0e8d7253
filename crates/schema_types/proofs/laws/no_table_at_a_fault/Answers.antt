use Rattle.schema_types.proofs.FaultLemmas.{schema_never}
use Rattle.schema_types.proofs.laws.no_table_at_a_fault.Goals as goal

pub returns : goal.returns
returns c octets f t fault is = schema_never fault is
