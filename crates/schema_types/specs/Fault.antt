-- Faults.
use Rattle.std.specs.Prelude.{ℕ}
use Rattle.schema_types.specs.declared.fault.Fault.{Fault}
use Rattle.schema_types.specs.declared.fault_kind.FaultKind.{FaultKind}

abbrev pub fault_at : FaultKind → ℕ → Fault
fault_at kind offset = record { kind = kind; offset = offset }
