-- Ranges of rows of a section, or of octets of the pool.
use Rattle.std.specs.Prelude.{ℕ, ◌+◌, ◌≤◌, List}
use Rattle.schema_types.specs.Numbers.{number_at}
use Rattle.schema_types.specs.declared.span.Span.{Span}

-- the range in the eight octets from an offset on: its start and its count
abbrev pub span_at : List ℕ → ℕ → Span
span_at octets at = record { start = number_at octets at; count = number_at octets (at + 4) }

-- a range is one of so many rows or octets
abbrev pub IsWithin : Span → ℕ → Type 0
IsWithin span room = span.start + span.count ≤ room
