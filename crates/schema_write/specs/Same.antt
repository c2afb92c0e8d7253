-- An encoding of a value of a type under BER, and what it is written as (`IsSame`): elements with the same
-- tags, in the same order or, in a SET and a SET OF, in another one; with definite lengths in the fewest
-- octets; with the joined text of strings in the constructed form; and without values of DEFAULTs. Elements
-- of unknown type are copied.
use Rattle.std.specs.Prelude.{◌≡◌, ℕ, zero, suc, Bool, true, false, List, Option, Some}
use Rattle.ber.specs.declared.header.Header.{Header}
use Rattle.ber.specs.declared.universal.Universal.{Universal}
use Rattle.der_base.specs.declared.encoding_rules.EncodingRules.TheVariants.{Der, Ber}
use Rattle.schema_types.specs.Table.{Table}
use Rattle.schema_types.specs.Tags.{SelectsOne}
use Rattle.schema_types.specs.declared.node.Node.{Node}
use Rattle.schema_types.specs.declared.node_kind.NodeKind.TheVariants.{Open}
use Rattle.schema_read.specs.Enclosed.{IsEnclosed}
use Rattle.schema_read.specs.Encoding.{IsDer}
use Rattle.schema_read.specs.Known.{Known, IsChosen}
use Rattle.schema_read.specs.Strings.{AreSegments}
use Rattle.schema_read.specs.Value.{shape_of, is_joined}
use Rattle.schema_read.specs.declared.shape.Shape.{Shape}
use Rattle.schema_read.specs.declared.shape.Shape.TheVariants.{Components, Members, Of, Items, SortedItems, Inner, Untyped, Nothing}
use Rattle.schema_write.specs.Components.{Pairs, AreComponents, IsMember}
use Rattle.schema_write.specs.Lists.{InTheirOrder, InSomeOrder}
use Rattle.schema_write.specs.Rewriting.{rewriting_of, IsRewritten}

-- an element under DER with the class and the number of a header, in the constructed form or not
pub record IsElementOf (h : Header) (constructed : Bool) (v w : List ℕ) : Type 0 where
  pub header : Header
  pub class : header.class ≡ h.class
  pub number : header.number ≡ h.number
  pub form : header.constructed ≡ constructed
  pub is : IsEnclosed Der header v w

-- the contents of a constructed type
abbrev pub AreSame : Shape → Table → Pairs → Known → Node → List ℕ → List ℕ → Type 0
AreSame Components t Child known n inner v =
    (k : ℕ) × (after : Known) × AreComponents Child t n k after inner v
AreSame Members t Child known n inner v = InSomeOrder (IsMember Child t n) inner v
AreSame Items t Child known n inner v =
    (i : ℕ) × (n.inner ≡ Some i) × InTheirOrder (Child known i) inner v
AreSame SortedItems t Child known n inner v =
    (i : ℕ) × (n.inner ≡ Some i) × InSomeOrder (Child known i) inner v
AreSame Inner t Child known n inner v = (i : ℕ) × (n.inner ≡ Some i) × Child known i inner v
AreSame (Of u) t Child known n inner v = ⊥
AreSame Untyped t Child known n inner v = ⊥
AreSame Nothing t Child known n inner v = ⊥

-- the text of a string in the constructed form, or the contents of a primitive encoding
abbrev pub IsTextOf : Bool → Universal → List ℕ → List ℕ → Type 0
IsTextOf true u inner text = AreSegments 64 u inner text
IsTextOf false u inner text = text ≡ inner

-- a value of a node that is no CHOICE, and what it is written as
pub data IsNodeSame (t : Table) (Child : Pairs) (known : Known) (n : Node) (x : List ℕ) : List ℕ → Type 0 where
  chosen : {m : ℕ} {w : List ℕ} → n.kind ≡ Open → IsChosen t n known m → Child known m x w
      → IsNodeSame t Child known n x w
  copied : shape_of n.kind ≡ Untyped → IsNodeSame t Child known n x x
  inside : {h : Header} {inner v w : List ℕ} → IsEnclosed Ber h inner x
      → AreSame (shape_of n.kind) t Child known n inner v → IsElementOf h true v w
      → IsNodeSame t Child known n x w
  primitive : {u : Universal} {h : Header} {inner v w : List ℕ} (text : List ℕ) → shape_of n.kind ≡ Of u
      → IsEnclosed Ber h inner x → IsTextOf (is_joined h.constructed u) u inner text
      → IsRewritten (rewriting_of u) n.parts.count text v → IsElementOf h false v w
      → IsNodeSame t Child known n x w
  whole : {u : Universal} {h : Header} {inner : List ℕ} → shape_of n.kind ≡ Of u
      → IsEnclosed Ber h inner x → h.constructed ≡ true → is_joined h.constructed u ≡ false
      → IsNodeSame t Child known n x x

-- a value of a node, with at most so many levels, and what it is written as
unfoldable pub IsSame : Table → ℕ → Pairs
IsSame t zero known i x w = ⊥
IsSame t (suc d) known i x w =
    (via : Option ℕ) × (m : ℕ)
    × SelectsOne t (λ n. IsNodeSame t (IsSame t d) known n x w) i via m

-- octets that are DER are copied
abbrev pub IsCopy : Table → ℕ → List ℕ → List ℕ → Type 0
IsCopy t node x w = IsDer t node x × (w ≡ x)
