-- Whether fields may be absent (X.680 25.1).
use Rattle.std.specs.Prelude.{ℕ, nat_eq, Option, Some, None, if◌then◌else◌}
use Rattle.schema_types.specs.declared.presence.Presence.{Presence}
use Rattle.schema_types.specs.declared.presence.Presence.TheVariants.{Required, Optional, Default}

abbrev pub presence_at : ℕ → Option Presence
presence_at n =
    if nat_eq n 0 then Some Required
    else if nat_eq n 1 then Some Optional
    else if nat_eq n 2 then Some Default
    else None

-- how many octets of a pool there are of which a default may be: all, if there is one
abbrev pub default_room : ℕ → Presence → ℕ
default_room pool Default = pool
default_room pool _ = 0
