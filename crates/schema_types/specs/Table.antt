-- Tables: the lists that rows of octets are. Rows name each other by index.
use Rattle.std.specs.Prelude.{◌≡◌, ℕ, zero, suc, ◌+◌, ◌*◌, ◌<◌, ◌≤◌, Bool, true, List, [], ◌∷◌, length}
use Rattle.std.specs.Ordering.{is_lt}
use Rattle.std.proofs.Props.{props}
use Rattle.der_base.specs.Order.{byte_order}
use Rattle.schema_types.specs.Counts.{counts_in, nodes_at, fields_at, limits_at, names_at, opens_at}
use Rattle.schema_types.specs.Pool.{pool_in}
use Rattle.schema_types.specs.Node.{node_at, IsNodeRow}
use Rattle.schema_types.specs.Field.{field_at, IsFieldRow}
use Rattle.schema_types.specs.Limit.{limit_at, IsLimitRow}
use Rattle.schema_types.specs.Name.{name_at, IsNameRow}
use Rattle.schema_types.specs.OpenType.{open_type_at, IsOpenTypeRow, identifier_in, Ascends}
use Rattle.schema_types.specs.declared.counts.Counts.{Counts}
use Rattle.schema_types.specs.declared.node.Node.{Node}
use Rattle.schema_types.specs.declared.field.Field.{Field}
use Rattle.schema_types.specs.declared.limit.Limit.{Limit}
use Rattle.schema_types.specs.declared.name.Name.{Name}
use Rattle.schema_types.specs.declared.node_kind.NodeKind.TheVariants.{Open}
use Rattle.schema_types.specs.declared.open_type.OpenType.{OpenType}

pub record Table : Type 0 where
  pub nodes : List Node
  pub fields : List Field
  pub limits : List Limit
  pub names : List Name
  pub opens : List OpenType
  pub pool : List ℕ

-- the rows of a size from an offset on, so many of them
abbrev pub rows : {A : Type 0} → (List ℕ → ℕ → A) → ℕ → ℕ → ℕ → List ℕ → List A
rows row size at zero octets = []
rows row size at (suc count) octets = row octets at ∷ rows row size (at + size) count octets

-- the table with these counts
abbrev pub table_with : Counts → List ℕ → Table
table_with c octets = record {
  nodes = rows node_at 40 nodes_at c.nodes octets;
  fields = rows field_at 28 (fields_at c) c.fields octets;
  limits = rows limit_at 20 (limits_at c) c.limits octets;
  names = rows name_at 16 (names_at c) c.names octets;
  opens = rows open_type_at 12 (opens_at c) c.opens octets;
  pool = pool_in c octets;
}

-- the table that octets are
abbrev pub table_in : List ℕ → Table
table_in octets = table_with (counts_in octets) octets

-- how many there are
abbrev pub counts_of : Table → Counts
counts_of t = record {
  nodes = length t.nodes;
  fields = length t.fields;
  limits = length t.limits;
  names = length t.names;
  opens = length t.opens;
  pool = length t.pool;
}

-- a fact holds of the offset of each row
abbrev pub EachRow : (ℕ → Type 0) → ℕ → ℕ → ℕ → Type 0
EachRow Fact size at count = (i : ℕ) → i < count → Fact (at + size * i)

-- the types of an open type ascend
abbrev pub IsAscending : Counts → List ℕ → Node → Type 0
IsAscending c octets n = n.kind ≡ Open → Ascends c octets n.parts

-- each row is well-formed
pub record AreRows (c : Counts) (octets : List ℕ) : Type 0 where
  pub nodes : EachRow (IsNodeRow c (pool_in c octets) octets) 40 nodes_at c.nodes
  pub fields : EachRow (IsFieldRow c (pool_in c octets) octets) 28 (fields_at c) c.fields
  pub limits : EachRow (IsLimitRow octets) 20 (limits_at c) c.limits
  pub names : EachRow (IsNameRow (pool_in c octets) octets) 16 (names_at c) c.names
  pub opens : EachRow (IsOpenTypeRow c (pool_in c octets) octets) 12 (opens_at c) c.opens

-- the types of each open type ascend
abbrev pub AreAscending : Counts → List ℕ → Type 0
AreAscending c octets = EachRow (λ at. IsAscending c octets (node_at octets at)) 40 nodes_at c.nodes

each_prop : (n : ℕ) (D : ℕ → Type 0) (low high : ℕ → ℕ) (test : ℕ → Bool)
    → IsProp ((i : ℕ) → i < n → D i → (k : ℕ) → low i ≤ k → k + 1 < high i → test k ≡ true)
each_prop n D low high test = Prim.hlevel props

-- there is one proof of it
pub AreAscending-prop : (c : Counts) (octets : List ℕ) → IsProp (AreAscending c octets)
AreAscending-prop c octets =
    each_prop c.nodes (λ i. (node_at octets (nodes_at + 40 * i)).kind ≡ Open)
    (λ i. (node_at octets (nodes_at + 40 * i)).parts.start)
    (λ i. (node_at octets (nodes_at + 40 * i)).parts.start
    + (node_at octets (nodes_at + 40 * i)).parts.count)
    (λ k. is_lt (byte_order (identifier_in c octets k) (identifier_in c octets (k + 1))))
