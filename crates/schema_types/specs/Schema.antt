-- Which octets are a table (`IsSchema`), and why octets are none (`IsFault`).
use Rattle.std.specs.Prelude.{◌≡◌, ℕ, ◌+◌, ◌*◌, ◌<◌, ◌≤◌, List, length}
use Rattle.schema_types.specs.Numbers.{number_at}
use Rattle.schema_types.specs.Counts.{counts_in, nodes_at, fields_at, limits_at, names_at, opens_at, size_of}
use Rattle.schema_types.specs.Fault.{fault_at}
use Rattle.schema_types.specs.Pool.{pool_in}
use Rattle.schema_types.specs.Node.{node_at, IsNodeFault}
use Rattle.schema_types.specs.Field.{IsFieldFault}
use Rattle.schema_types.specs.Limit.{IsLimitFault}
use Rattle.schema_types.specs.Name.{IsNameFault}
use Rattle.schema_types.specs.OpenType.{IsOpenTypeFault, IsOrderFault}
use Rattle.schema_types.specs.Table.{Table, table_in, AreRows, AreAscending}
use Rattle.schema_types.specs.Distinct.{AreNested, IsNestingFault, AreDistinct, IsTagFault}
use Rattle.schema_types.specs.declared.counts.Counts.{Counts}
use Rattle.schema_types.specs.declared.fault.Fault.{Fault}
use Rattle.schema_types.specs.declared.node_kind.NodeKind.TheVariants.{Open}
use Rattle.schema_types.specs.declared.fault_kind.FaultKind.TheVariants.{TooShort, Magic, Version, Size}

-- the number of the first four octets, `YSCH`
abbrev pub magic : ℕ
magic = 1498628936

-- the number of the next four
abbrev pub version : ℕ
version = 1

-- octets begin with a header, and are as many as its counts ask for
pub record IsHeader (octets : List ℕ) : Type 0 where
  pub long : 32 ≤ length octets
  pub magic : number_at octets 0 ≡ magic
  pub version : number_at octets 4 ≡ version
  pub size : size_of (counts_in octets) ≡ length octets

-- octets are this table
pub record IsSchema (octets : List ℕ) (t : Table) : Type 0 where
  pub header : IsHeader octets
  pub rows : AreRows (counts_in octets) octets
  pub ascending : AreAscending (counts_in octets) octets
  pub nested : AreNested t
  pub distinct : AreDistinct t
  pub table : t ≡ table_in octets

-- why octets with these counts have a row that is not well-formed
pub data IsRowFault (c : Counts) (octets : List ℕ) : Fault → Type 0 where
  no_node : {f : Fault} (i : ℕ) → i < c.nodes
      → IsNodeFault c (pool_in c octets) octets (nodes_at + 40 * i) f → IsRowFault c octets f
  no_field : {f : Fault} (i : ℕ) → i < c.fields
      → IsFieldFault c (pool_in c octets) octets (fields_at c + 28 * i) f → IsRowFault c octets f
  no_limit : {f : Fault} (i : ℕ) → i < c.limits
      → IsLimitFault octets (limits_at c + 20 * i) f → IsRowFault c octets f
  no_name : {f : Fault} (i : ℕ) → i < c.names
      → IsNameFault (pool_in c octets) octets (names_at c + 16 * i) f → IsRowFault c octets f
  no_open_type : {f : Fault} (i : ℕ) → i < c.opens
      → IsOpenTypeFault c (pool_in c octets) octets (opens_at c + 12 * i) f → IsRowFault c octets f
  no_order : {f : Fault} (i : ℕ) → i < c.nodes → (node_at octets (nodes_at + 40 * i)).kind ≡ Open
      → IsOrderFault c octets (node_at octets (nodes_at + 40 * i)).parts f → IsRowFault c octets f

-- why octets have no header
pub data IsHeaderFault (octets : List ℕ) : Fault → Type 0 where
  too_short : length octets < 32 → IsHeaderFault octets (fault_at TooShort (length octets))
  other_magic : 32 ≤ length octets → (number_at octets 0 ≡ magic → ⊥)
      → IsHeaderFault octets (fault_at Magic 0)
  other_version : 32 ≤ length octets → (number_at octets 4 ≡ version → ⊥)
      → IsHeaderFault octets (fault_at Version 4)
  other_size : 32 ≤ length octets → (size_of (counts_in octets) ≡ length octets → ⊥)
      → IsHeaderFault octets (fault_at Size (length octets))

-- why octets are no table
pub data IsFault (octets : List ℕ) : Fault → Type 0 where
  no_header : {f : Fault} → IsHeaderFault octets f → IsFault octets f
  no_row : {f : Fault} → IsHeader octets → IsRowFault (counts_in octets) octets f → IsFault octets f
  not_nested : {f : Fault} → IsHeader octets → AreRows (counts_in octets) octets
      → IsNestingFault (counts_in octets) (table_in octets) f → IsFault octets f
  not_distinct : {f : Fault} → IsHeader octets → AreRows (counts_in octets) octets
      → IsTagFault (counts_in octets) (table_in octets) f → IsFault octets f
