-- Components of a SEQUENCE and of a SET, and what they are written as.
use Rattle.std.specs.Prelude.{◌≡◌, ◌≢◌, ◌⊎◌, ℕ, ◌+◌, ◌≤◌, List, [], ◌++◌, None, slice_get}
use Rattle.schema_types.specs.Pool.{octets_of}
use Rattle.schema_types.specs.Table.{Table}
use Rattle.schema_types.specs.Tags.{IsFieldOf}
use Rattle.schema_types.specs.declared.field.Field.{Field}
use Rattle.schema_types.specs.declared.node.Node.{Node}
use Rattle.schema_types.specs.declared.presence.Presence.TheVariants.{Default}
use Rattle.schema_read.specs.Components.{MayBePassed}
use Rattle.schema_read.specs.Known.{Known, Follows}
use Rattle.schema_read.specs.Tags.{NoneBegins}

-- what is said of an encoding of a value of a node, after an OBJECT IDENTIFIER, and of what it is written as
abbrev pub Pairs : Type 1
Pairs = Known → ℕ → List ℕ → List ℕ → Type 0

-- the value of a component is written, unless it is that of its DEFAULT (X.690 11.5)
pub data IsLeft (t : Table) (f : Field) (x : List ℕ) : List ℕ → Type 0 where
  out : f.presence ≡ Default → x ≡ octets_of t.pool f.default → IsLeft t f x []
  in_place : (f.presence ≡ Default → x ≢ octets_of t.pool f.default) → IsLeft t f x x

abbrev pub IsComponent : Pairs → Table → Known → Field → List ℕ → List ℕ → Type 0
IsComponent Child t known f x w = (y : List ℕ) × Child known f.node x y × IsLeft t f y w

-- no field that may be next, from an index on, takes an element: all fields before it may be absent
abbrev pub IsUntaken : Table → Node → ℕ → List ℕ → Type 0
IsUntaken t n k x =
    (j : ℕ) (f : Field) → k ≤ j → IsFieldOf t n j f → MayBePassed t n k j → NoneBegins t f.node x

-- no field of a node takes an element
abbrev pub NoneTakes : Table → Node → List ℕ → Type 0
NoneTakes t n x = (j : ℕ) (f : Field) → IsFieldOf t n j f → NoneBegins t f.node x

-- the components of a SEQUENCE, of fields before an index, of which those may be absent that are passed; and
-- extension additions, which are copied (X.690 8.9); and the OBJECT IDENTIFIER that is known after them
pub data AreComponents (Child : Pairs) (t : Table) (n : Node) : ℕ → Known → List ℕ → List ℕ → Type 0 where
  none : AreComponents Child t n n.parts.start None [] []
  component : {k j : ℕ} {f : Field} {known after : Known} {before x v w : List ℕ}
      → AreComponents Child t n k known before v → k ≤ j → MayBePassed t n k j → IsFieldOf t n j f
      → IsComponent Child t known f x w → Follows (slice_get t.nodes f.node) j x known after
      → AreComponents Child t n (j + 1) after (before ++ x) (v ++ w)
  addition : {k : ℕ} {known : Known} {before x v : List ℕ}
      → AreComponents Child t n k known before v → IsUntaken t n k x
      → AreComponents Child t n k known (before ++ x) (v ++ x)

-- an element of a SET: the component of a field, or an extension addition, which is copied (8.11)
abbrev pub IsMember : Pairs → Table → Node → List ℕ → List ℕ → Type 0
IsMember Child t n x w =
    ((j : ℕ) × (f : Field) × IsFieldOf t n j f × IsComponent Child t None f x w)
    ⊎ (NoneTakes t n x × (w ≡ x))
