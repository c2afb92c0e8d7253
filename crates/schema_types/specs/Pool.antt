-- The pool: octets that names, defaults and identifiers are ranges of.
use Rattle.std.specs.Prelude.{◌≡◌, ℕ, true, List, length, take, drop}
use Rattle.std.specs.Str.{is_utf8}
use Rattle.schema_types.specs.Counts.{pool_at}
use Rattle.schema_types.specs.Span.{IsWithin}
use Rattle.schema_types.specs.declared.counts.Counts.{Counts}
use Rattle.schema_types.specs.declared.span.Span.{Span}

-- the octets after the rows
abbrev pub pool_in : Counts → List ℕ → List ℕ
pool_in c octets = drop (pool_at c) octets

-- the octets of a range
abbrev pub octets_of : List ℕ → Span → List ℕ
octets_of pool span = take span.count (drop span.start pool)

-- a range is one of the pool, and has a text in UTF-8
abbrev pub IsText : List ℕ → Span → Type 0
IsText pool span = IsWithin span (length pool) × (is_utf8 (octets_of pool span) ≡ true)
