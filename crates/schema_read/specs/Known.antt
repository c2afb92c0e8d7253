-- The OBJECT IDENTIFIER that chooses an open type: the last component of the SEQUENCE around it that
-- is one, by the index of its field and its contents octets.
use Rattle.std.specs.Prelude.{◌≡◌, ℕ, List, Option, Some, None, slice_get}
use Rattle.ber.specs.Element.{IsElement}
use Rattle.ber.specs.declared.header.Header.{Header}
use Rattle.ber.specs.declared.universal.Universal.TheVariants.{ObjectIdentifier}
use Rattle.schema_types.specs.Table.{Table}
use Rattle.schema_types.specs.Chosen.{ChoosesRow}
use Rattle.schema_types.specs.declared.node.Node.{Node}
use Rattle.schema_types.specs.declared.node_kind.NodeKind.TheVariants.{Universal, Open}
use Rattle.schema_types.specs.declared.open_type.OpenType.{OpenType}
use Rattle.schema_read.specs.declared.known.Known.{Known as Stored}

abbrev pub Known : Type 0
Known = Option (ℕ × List ℕ)

-- what the reader stores of it
abbrev pub known_in : Option Stored → Known
known_in None = None
known_in (Some k) = Some (k.field, k.identifier.now)

abbrev pub IsIdentifier : Option Node → Type 0
IsIdentifier None = ⊥
IsIdentifier (Some n) = n.kind ≡ Universal ObjectIdentifier

-- after a component, which has this node: its own contents, if it is an OBJECT IDENTIFIER
pub data Follows (node : Option Node) (field : ℕ) (octets : List ℕ) (before : Known) : Known → Type 0 where
  changed : {h : Header} {inner : List ℕ} → IsIdentifier node → IsElement h inner octets
      → Follows node field octets before (Some (field, inner))
  same : (IsIdentifier node → ⊥) → Follows node field octets before before

-- the OBJECT IDENTIFIER is the one that chooses an open type, and chooses this node for it
-- (X.681 14, X.682 10)
pub record IsChosen (t : Table) (n : Node) (known : Known) (chosen : ℕ) : Type 0 where
  pub identifier : List ℕ
  pub by : known ≡ Some (n.chooser, identifier)
  pub type : OpenType
  pub row : ChoosesRow t n.parts identifier type
  pub node : chosen ≡ type.node

-- the table does not know the type
abbrev pub IsUnknown : Table → Node → Known → Type 0
IsUnknown t n known = (m : ℕ) → IsChosen t n known m → ⊥

-- a node is an open type that the table does not know
abbrev pub IsUnknownOpen : Table → Known → ℕ → Type 0
IsUnknownOpen t known i = (n : Node) × (slice_get t.nodes i ≡ Some n) × (n.kind ≡ Open) × IsUnknown t n known
