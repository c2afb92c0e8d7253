-- The components of a SEQUENCE (X.690 8.9), and extension additions that the type
-- does not have.
use Rattle.std.specs.Prelude.{◌≡◌, ◌≢◌, ◌⊎◌, ℕ, zero, suc, ◌+◌, ◌<◌, ◌≤◌, true, false, List, [], ◌++◌, Some, slice_get}
use Rattle.der_base.specs.declared.encoding_rules.EncodingRules.{EncodingRules}
use Rattle.der_base.specs.declared.encoding_rules.EncodingRules.TheVariants.{Der}
use Rattle.ber.specs.Header.{IsNext}
use Rattle.ber.specs.declared.header.Header.{Header}
use Rattle.ber.specs.declared.universal.Universal.TheVariants.{Sequence}
use Rattle.schema_types.specs.Table.{Table}
use Rattle.schema_types.specs.Pool.{octets_of}
use Rattle.schema_types.specs.declared.field.Field.{Field}
use Rattle.schema_types.specs.declared.node.Node.{Node}
use Rattle.schema_types.specs.declared.node_kind.NodeKind.TheVariants.{Universal as Universally}
use Rattle.schema_types.specs.declared.presence.Presence.TheVariants.{Default}
use Rattle.schema_types.specs.Distinct.{may_be_missing}
use Rattle.schema_types.specs.Node.{insertion_of}
use Rattle.schema_types.specs.Tags.{IsFieldOf, Begins}
use Rattle.schema_read.specs.Known.{Known, Follows}
use Rattle.schema_read.specs.Items.{SomeItems, IsAnyCount}

-- what is said of the encodings of values of nodes, after an OBJECT IDENTIFIER; and of those of any type
abbrev pub Values : Type 1
Values = EncodingRules → Known → ℕ → List ℕ → Type 0

abbrev pub Elements : Type 1
Elements = EncodingRules → List ℕ → Type 0

-- a value is not that of a DEFAULT, under DER (11.5)
abbrev pub IsNoDefault : EncodingRules → Table → Field → List ℕ → Type 0
IsNoDefault rules t f x =
    rules ≡ Der → f.presence ≡ Default → x ≢ octets_of t.pool f.default

-- the encoding of a component
abbrev pub IsComponent : Values → EncodingRules → Table → Known → Field → List ℕ → Type 0
IsComponent Child rules t known f x = Child rules known f.node x × IsNoDefault rules t f x

-- a component of a SEQUENCE that may be absent
abbrev pub MayBeAbsent : Field → Type 0
MayBeAbsent f = may_be_missing (Universally Sequence) f ≡ true

-- the extension insertion point of a node is before a field (X.680 25.1)
abbrev pub IsInsertion : Node → ℕ → Type 0
IsInsertion n k = (i : ℕ) × (insertion_of n ≡ Some i) × (k ≡ n.parts.start + i)

-- the fields of a node from an index on, before another, may be absent
abbrev pub MayBePassed : Table → Node → ℕ → ℕ → Type 0
MayBePassed t n j k = (l : ℕ) (g : Field) → j ≤ l → l < k → IsFieldOf t n l g → MayBeAbsent g

-- a field takes an element with its tag at the insertion point: it is before the point, and may be absent, as
-- may all fields between it and the point; or it is after the point, and all fields between them may be absent
-- (25.6, 25.7)
pub record MayTake (t : Table) (n : Node) (k j : ℕ) (f : Field) : Type 0 where
  pub field : IsFieldOf t n j f
  pub before : MayBePassed t n j k
  pub after : MayBePassed t n k j

-- an element with this header is taken by a field
pub record IsTaken (t : Table) (n : Node) (k : ℕ) (h : Header) : Type 0 where
  pub index : ℕ
  pub by : Field
  pub may : MayTake t n k index by
  pub begins : Begins t by.node h.class h.number

-- an extension addition that the type does not have, before a field: an element of any type that no
-- field takes (25.1, 25.6)
pub record IsAddition (Item : Elements) (rules : EncodingRules) (t : Table) (n : Node) (k : ℕ) (x : List ℕ)
    : Type 0 where
  pub at : IsInsertion n k
  pub item : Item rules x
  pub unknown : (h : Header) → IsNext h x → IsTaken t n k h → ⊥

-- any number of such additions, and contents after them
abbrev pub AfterAdditions : Elements → EncodingRules → Table → Node → ℕ → (List ℕ → Type 0) → List ℕ → Type 0
AfterAdditions Item rules t n k Are octets =
    (a : List ℕ) × (rest : List ℕ) × (octets ≡ a ++ rest)
    × SomeItems false rules (IsAddition Item rules t n k) IsAnyCount a × Are rest

-- so many components from a field on, in order, of which those that are OPTIONAL, have a DEFAULT or
-- are extension additions may be absent (8.9.2, 8.9.3)
abbrev pub AreComponents : Values → Elements → EncodingRules → Table → Node → ℕ → ℕ → Known → List ℕ → Type 0
AreComponents Child Item rules t n zero k known octets = octets ≡ []
AreComponents Child Item rules t n (suc m) k known octets =
    (f : Field) × (slice_get t.fields k ≡ Some f)
    × (((x : List ℕ) × (rest : List ℕ) × (after : Known) × (octets ≡ x ++ rest)
    × IsComponent Child rules t known f x × Follows (slice_get t.nodes f.node) k x known after
    × AfterAdditions Item rules t n (suc k) (AreComponents Child Item rules t n m (suc k) after) rest)
    ⊎ (MayBeAbsent f
    × AfterAdditions Item rules t n (suc k) (AreComponents Child Item rules t n m (suc k) known) octets))

-- additions before a field, and so many components from it on
abbrev pub AreFrom : Values → Elements → EncodingRules → Table → Node → ℕ → ℕ → Known → List ℕ → Type 0
AreFrom Child Item rules t n m k known octets =
    AfterAdditions Item rules t n k (AreComponents Child Item rules t n m k known) octets
