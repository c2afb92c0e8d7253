-- Limits: a row of 20 octets.
use Rattle.std.specs.Prelude.{◌≡◌, ℕ, ◌+◌, List, None, IsSome, unwrap_or}
use Rattle.schema_types.specs.Numbers.{number_at, signed_at}
use Rattle.schema_types.specs.LimitKind.{limit_kind_at}
use Rattle.schema_types.specs.Fault.{fault_at}
use Rattle.schema_types.specs.declared.fault.Fault.{Fault}
use Rattle.schema_types.specs.declared.fault_kind.FaultKind.TheVariants.{Limit as NoLimit}
use Rattle.schema_types.specs.declared.limit.Limit.{Limit}
use Rattle.schema_types.specs.declared.limit_kind.LimitKind.TheVariants.{Value}

-- the limit in the 20 octets from an offset on
abbrev pub limit_at : List ℕ → ℕ → Limit
limit_at octets at = record {
  kind = unwrap_or (limit_kind_at (number_at octets at)) Value;
  low = signed_at octets (at + 4);
  high = signed_at octets (at + 12);
}

-- a row is a limit
abbrev pub IsLimitRow : List ℕ → ℕ → Type 0
IsLimitRow octets at = IsSome (limit_kind_at (number_at octets at))

-- why a row is no limit
pub data IsLimitFault (octets : List ℕ) (at : ℕ) : Fault → Type 0 where
  unknown_limit : limit_kind_at (number_at octets at) ≡ None
      → IsLimitFault octets at (fault_at NoLimit at)
