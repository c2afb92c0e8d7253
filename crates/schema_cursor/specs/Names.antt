-- The names of elements in a table of types.
use Rattle.std.specs.Prelude.{◌≡◌, ◌+◌, ◌<◌, ℕ, List, Option, Some, None, slice_get}
use Rattle.schema_types.specs.Pool.{octets_of}
use Rattle.schema_types.specs.Table.{Table}
use Rattle.schema_types.specs.declared.field.Field.{Field}
use Rattle.schema_types.specs.declared.node.Node.{Node}
use Rattle.schema_read.specs.declared.entry.Entry.{Entry}
use Rattle.schema_cursor.specs.Children.{IsChild}

abbrev pub name_of_field : Table → Option Field → Option (List ℕ)
name_of_field t None = None
name_of_field t (Some f) = Some (octets_of t.pool f.name)

-- the name of the field with an index
abbrev pub field_name : Table → ℕ → Option (List ℕ)
field_name t index = name_of_field t (slice_get t.fields index)

abbrev pub or_else : Option (List ℕ) → Option (List ℕ) → Option (List ℕ)
or_else None other = other
or_else (Some name) other = Some name

-- the name of an element: that of its field, or of its alternative if it is of no field
abbrev pub name_of : Table → Entry → Option (List ℕ)
name_of t e = or_else (field_name t e.field) (field_name t e.alternative)

-- the name of the type of an element
abbrev pub name_of_node : Table → Option Node → Option (List ℕ)
name_of_node t None = None
name_of_node t (Some n) = Some (octets_of t.pool n.name)

abbrev pub type_name : Table → ℕ → Option (List ℕ)
type_name t index = name_of_node t (slice_get t.nodes index)

-- the element with an index has this name
abbrev pub IsNamed : Table → List Entry → List ℕ → ℕ → Type 0
IsNamed t entries name k = (e : Entry) × (slice_get entries k ≡ Some e) × (name_of t e ≡ Some name)

-- a child has this name
pub record IsNamedChild (t : Table) (entries : List Entry) (parent : ℕ) (name : List ℕ) (k : ℕ) : Type 0 where
  pub child : IsChild entries parent (parent + 1) k
  pub named : IsNamed t entries name k

-- it is the first of these
pub record IsField (t : Table) (entries : List Entry) (parent : ℕ) (name : List ℕ) (k : ℕ) : Type 0 where
  pub is : IsNamedChild t entries parent name k
  pub first : (j : ℕ) → j < k → IsNamedChild t entries parent name j → ⊥
