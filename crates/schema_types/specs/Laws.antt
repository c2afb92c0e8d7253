-- Laws of tables.
use Rattle.std.specs.Prelude.{◌≡◌, ℕ, List, Option}
use Rattle.der_base.specs.declared.tag.class.Class.{Class}
use Rattle.schema_types.specs.Table.{Table}
use Rattle.schema_types.specs.Tags.{IsSelected}
use Rattle.schema_types.specs.Schema.{IsSchema, IsFault}
use Rattle.schema_types.specs.declared.fault.Fault.{Fault}

-- octets with a fault are no table
abbrev pub NoTableAtAFault : Type 0
NoTableAtAFault = (octets : List ℕ) (f : Fault) (t : Table) → IsFault octets f → IsSchema octets t → ⊥

-- octets are at most one table
abbrev pub TablesAreSingle : Type 0
TablesAreSingle = (octets : List ℕ) (t u : Table) → IsSchema octets t → IsSchema octets u → t ≡ u

-- a tag selects at most one node of a node of a table, through one field
abbrev pub SelectionsAreSingle : Type 0
SelectionsAreSingle =
    (octets : List ℕ) (t : Table) → IsSchema octets t
    → (i : ℕ) (class : Class) (number : ℕ) (via also : Option ℕ) (m n : ℕ)
    → IsSelected t i class number via m → IsSelected t i class number also n
    → (via ≡ also) × (m ≡ n)
