-- Which components must have distinct tags (`AreDistinct`), and which have one tag (`IsTagFault`).
use Rattle.std.specs.Prelude.{◌≡◌, ℕ, ◌+◌, ◌*◌, ◌<◌, ◌≤◌, Bool, true, false, not, ◌||◌, nat_eq, slice_get, Some}
use Rattle.ber.specs.declared.universal.Universal.TheVariants.{Sequence, Set}
use Rattle.schema_types.specs.Counts.{fields_at}
use Rattle.schema_types.specs.Fault.{fault_at}
use Rattle.schema_types.specs.Table.{Table}
use Rattle.schema_types.specs.Tags.{IsFieldOf, ShareTag, AreApart}
use Rattle.schema_types.specs.declared.counts.Counts.{Counts}
use Rattle.schema_types.specs.declared.fault.Fault.{Fault}
use Rattle.schema_types.specs.declared.fault_kind.FaultKind.TheVariants.{Tag, Choice as NoChoice}
use Rattle.schema_types.specs.declared.field.Field.{Field}
use Rattle.schema_types.specs.declared.node.Node.{Node}
use Rattle.schema_types.specs.declared.node_kind.NodeKind.{NodeKind}
use Rattle.schema_types.specs.declared.node_kind.NodeKind.TheVariants.{Universal as Universally, Choice}
use Rattle.schema_types.specs.declared.presence.Presence.{Presence}
use Rattle.schema_types.specs.declared.presence.Presence.TheVariants.{Required}

abbrev pub is_required : Presence → Bool
is_required Required = true
is_required _ = false

-- a field may be missing where a later one is: an alternative of a CHOICE (29.3) and a component of
-- a SET (27.3) always; a component of a SEQUENCE if it is OPTIONAL, has a DEFAULT, or is an extension
-- addition (25.6, 25.7). Other nodes have no fields
abbrev pub may_be_missing : NodeKind → Field → Bool
may_be_missing Choice f = true
may_be_missing (Universally Set) f = true
may_be_missing (Universally Sequence) f =
    not (is_required f.presence) || not (nat_eq f.addition 0)
may_be_missing _ f = false

-- a field and a later one of a node: a value may have the later one where the first was expected,
-- since all fields from the first on may be missing there
pub record MayFollow (t : Table) (n : Node) (j k : ℕ) (f g : Field) : Type 0 where
  pub earlier : IsFieldOf t n j f
  pub later : IsFieldOf t n k g
  pub before : j < k
  pub missing : (l : ℕ) (h : Field) → j ≤ l → l < k → IsFieldOf t n l h
      → may_be_missing n.kind h ≡ true

-- the tags of a field and of those that it may follow are distinct
abbrev pub IsDistinct : Table → Node → ℕ → Type 0
IsDistinct t n k = (j : ℕ) (f g : Field) → MayFollow t n j k f g → AreApart t f.node g.node

-- those of all fields of each node
abbrev pub AreDistinct : Table → Type 0
AreDistinct t = (i : ℕ) (n : Node) → slice_get t.nodes i ≡ Some n → (k : ℕ) → IsDistinct t n k

-- two such fields share a tag; the offset is that of the later one
pub data IsTagFault (c : Counts) (t : Table) : Fault → Type 0 where
  same_tag : (i j k : ℕ) (n : Node) (f g : Field) → slice_get t.nodes i ≡ Some n
      → MayFollow t n j k f g → ShareTag t f.node g.node
      → IsTagFault c t (fault_at Tag (fields_at c + 28 * k))

-- an alternative of a CHOICE that is itself a CHOICE
pub record IsNested (t : Table) (i k : ℕ) (f : Field) : Type 0 where
  pub outer : Node
  pub row : slice_get t.nodes i ≡ Some outer
  pub choice : outer.kind ≡ Choice
  pub field : IsFieldOf t outer k f
  pub inner : Node
  pub inner_row : slice_get t.nodes f.node ≡ Some inner
  pub inner_choice : inner.kind ≡ Choice

-- it comes before the CHOICE that it is in
abbrev pub IsAfter : Table → ℕ → ℕ → Type 0
IsAfter t i k = (f : Field) → IsNested t i k f → f.node < i

-- each does, so no CHOICE is an alternative of itself, at any depth
abbrev pub AreNested : Table → Type 0
AreNested t = (i k : ℕ) → IsAfter t i k

-- one does not; the offset is that of the number of its node
pub data IsNestingFault (c : Counts) (t : Table) : Fault → Type 0 where
  not_before : (i k : ℕ) (f : Field) → IsNested t i k f → i ≤ f.node
      → IsNestingFault c t (fault_at NoChoice (fields_at c + 28 * k + 16))
