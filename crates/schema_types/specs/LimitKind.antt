-- What a limit limits.
use Rattle.std.specs.Prelude.{ℕ, nat_eq, Option, Some, None, if◌then◌else◌}
use Rattle.schema_types.specs.declared.limit_kind.LimitKind.{LimitKind}
use Rattle.schema_types.specs.declared.limit_kind.LimitKind.TheVariants.{Value, Size, Alphabet}

abbrev pub limit_kind_at : ℕ → Option LimitKind
limit_kind_at n =
    if nat_eq n 0 then Some Value
    else if nat_eq n 1 then Some Size
    else if nat_eq n 2 then Some Alphabet
    else None
