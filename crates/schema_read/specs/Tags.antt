-- Octets that begin with a header that a value of a node may have.
use Rattle.std.specs.Prelude.{◌≢◌, ℕ, List}
use Rattle.ber.specs.Header.{IsNext, end_header}
use Rattle.ber.specs.declared.header.Header.{Header}
use Rattle.schema_types.specs.Table.{Table}
use Rattle.schema_types.specs.Tags.{Begins}

-- they begin with one
abbrev pub IsBegun : Table → ℕ → List ℕ → Type 0
IsBegun t i octets = (h : Header) × IsNext h octets × (h ≢ end_header) × Begins t i h.class h.number

-- they begin with none
abbrev pub NoneBegins : Table → ℕ → List ℕ → Type 0
NoneBegins t i octets =
    (h : Header) → IsNext h octets → h ≢ end_header → Begins t i h.class h.number → ⊥
