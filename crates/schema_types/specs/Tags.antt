-- Tags with which values of a type begin (`Begins`), through the alternatives of a CHOICE (`Selects`).
use Rattle.std.specs.Prelude.{◌≡◌, ◌≢◌, ℕ, ◌+◌, ◌<◌, ◌≤◌, Bool, true, false, slice_get, Option, Some, None, unwrap_or}
use Rattle.der_base.specs.declared.tag.class.Class.{Class}
use Rattle.schema_types.specs.Table.{Table}
use Rattle.schema_types.specs.declared.field.Field.{Field}
use Rattle.schema_types.specs.declared.node.Node.{Node}
use Rattle.schema_types.specs.declared.node_kind.NodeKind.{NodeKind}
use Rattle.schema_types.specs.declared.node_kind.NodeKind.TheVariants.{Choice, Any, Open}
use Rattle.schema_types.specs.declared.span.Span.{Span}

-- a row is one of a range
abbrev pub IsPart : Span → ℕ → Type 0
IsPart span k = (span.start ≤ k) × (k < span.start + span.count)

-- a field is one of the parts of a node
pub record IsFieldOf (t : Table) (n : Node) (k : ℕ) (f : Field) : Type 0 where
  pub part : IsPart n.parts k
  pub row : slice_get t.fields k ≡ Some f

-- a value of a node is one of another, which is no CHOICE: of itself, or of what an alternative
-- selects (X.680 29.1). The field, if there is one, is the last alternative on the way
pub data Selects (t : Table) : ℕ → Option ℕ → ℕ → Type 0 where
  itself : {i : ℕ} {n : Node} → slice_get t.nodes i ≡ Some n → n.kind ≢ Choice
      → Selects t i None i
  alternative : {i k m : ℕ} {n : Node} {f : Field} {via : Option ℕ}
      → slice_get t.nodes i ≡ Some n → n.kind ≡ Choice → IsFieldOf t n k f
      → Selects t f.node via m → Selects t i (Some (unwrap_or via k)) m

-- a type without a tag of its own, whose values may have each
abbrev pub is_untagged : NodeKind → Bool
is_untagged Any = true
is_untagged Open = true
is_untagged _ = false

-- a value of a node, which is no CHOICE, may have this tag
pub data HasTag (n : Node) (class : Class) (number : ℕ) : Type 0 where
  own : n.class ≡ class → n.number ≡ number → HasTag n class number
  each : is_untagged n.kind ≡ true → HasTag n class number

-- node i selects node m, of which a fact holds, through this field
pub record SelectsOne (t : Table) (Fact : Node → Type 0) (i : ℕ) (via : Option ℕ) (m : ℕ)
    : Type 0 where
  pub node : Node
  pub selects : Selects t i via m
  pub row : slice_get t.nodes m ≡ Some node
  pub fact : Fact node

-- a value of node i with this tag is one of node m, through this field
abbrev pub IsSelected : Table → ℕ → Class → ℕ → Option ℕ → ℕ → Type 0
IsSelected t i class number via m = SelectsOne t (λ n. HasTag n class number) i via m

-- a value of node i may begin with this tag
pub record Begins (t : Table) (i : ℕ) (class : Class) (number : ℕ) : Type 0 where
  pub via : Option ℕ
  pub node : ℕ
  pub selected : IsSelected t i class number via node

-- values of both nodes may begin with one tag
pub record ShareTag (t : Table) (i j : ℕ) : Type 0 where
  pub class : Class
  pub number : ℕ
  pub first : Begins t i class number
  pub second : Begins t j class number

-- no tag begins both
abbrev pub AreApart : Table → ℕ → ℕ → Type 0
AreApart t i j = ShareTag t i j → ⊥
