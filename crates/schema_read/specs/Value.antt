-- The encodings of the values of a type (X.680), under DER and under BER: `IsValue`. Types are those
-- of a table, in which nodes name each other by index; values are nested at most `depth` levels.
use Rattle.std.specs.Prelude.{◌≡◌, ℕ, zero, suc, ◌&&◌, Bool, true, false, List, [], Option, Some, None}
use Rattle.der_base.specs.declared.encoding_rules.EncodingRules.{EncodingRules}
use Rattle.der_base.specs.declared.encoding_rules.EncodingRules.TheVariants.{Ber}
use Rattle.ber.specs.Der.{type_of}
use Rattle.ber.specs.Form.{allows}
use Rattle.ber.specs.Universal.{form_of}
use Rattle.ber.specs.Header.{label_of_header}
use Rattle.ber.specs.declared.form.Form.{Form}
use Rattle.ber.specs.declared.form.Form.TheVariants.{Primitive, Constructed, Either}
use Rattle.ber.specs.declared.header.Header.{Header}
use Rattle.ber.specs.declared.universal.Universal.{Universal}
use Rattle.ber.specs.declared.universal.Universal.TheVariants.{OctetString, Sequence, Set}
use Rattle.schema_types.specs.Table.{Table}
use Rattle.schema_types.specs.declared.node.Node.{Node}
use Rattle.schema_types.specs.declared.node_kind.NodeKind.{NodeKind}
use Rattle.schema_types.specs.declared.node_kind.NodeKind.TheVariants.{Universal as Universally, SequenceOf, SetOf, Choice, Explicit, Any, Open}
use Rattle.schema_types.specs.Tags.{SelectsOne, HasTag}
use Rattle.schema_read.specs.declared.shape.Shape.{Shape}
use Rattle.schema_read.specs.declared.shape.Shape.TheVariants.{Components, Members, Of, Items, SortedItems, Inner, Untyped, Nothing}
use Rattle.schema_read.specs.Components.{Values, Elements, AreFrom}
use Rattle.schema_read.specs.Items.{SomeItems, IsAnyCount}
use Rattle.schema_read.specs.Members.{SomeMembers}
use Rattle.schema_read.specs.Known.{Known, IsChosen, IsUnknown, IsUnknownOpen}
use Rattle.schema_read.specs.Constraints.{IsAllowedSize, IsConstrained}
use Rattle.schema_read.specs.Enclosed.{IsEnclosed}
use Rattle.schema_read.specs.Strings.{AreSegments}
use Rattle.schema_rules.specs.Contents.{IsContents}

-- a form that the sender chooses: that of a string
abbrev pub is_string : Form → Bool
is_string Either = true
is_string Primitive = false
is_string Constructed = false

-- a universal type that may be constructed under DER
abbrev pub MayBeConstructed : Option Universal → Type 0
MayBeConstructed None = Unit {0}
MayBeConstructed (Some u) = form_of u ≡ Constructed

-- what the contents of a value of a kind are
abbrev pub shape_of : NodeKind → Shape
shape_of (Universally Sequence) = Components
shape_of (Universally Set) = Members
shape_of (Universally u) = Of u
shape_of SequenceOf = Items
shape_of SetOf = SortedItems
shape_of Explicit = Inner
shape_of Choice = Nothing
shape_of Any = Untyped
shape_of Open = Untyped

-- contents that are constructed, whatever the tag is
abbrev pub is_constructed : Shape → Bool
is_constructed Components = true
is_constructed Members = true
is_constructed (Of u) = false
is_constructed Items = true
is_constructed SortedItems = true
is_constructed Inner = true
is_constructed Untyped = false
is_constructed Nothing = false

-- contents of a primitive encoding of a universal type, or of one that is none
abbrev pub IsPrimitive : EncodingRules → Option Universal → List ℕ → Type 0
IsPrimitive rules None inner = Unit {0}
IsPrimitive rules (Some u) inner = (allows (form_of u) false ≡ true) × IsContents rules u inner

-- contents of an element of a universal type, or of one that is none
abbrev pub IsUnknownType : EncodingRules → Elements → Option Universal → Bool → List ℕ → Type 0
IsUnknownType rules Item u false inner = IsPrimitive rules u inner
IsUnknownType rules Item u true inner =
    MayBeConstructed u × SomeItems false rules (Item rules) IsAnyCount inner

-- an element of any type
abbrev pub IsElementOfAny : EncodingRules → Elements → List ℕ → Type 0
IsElementOfAny rules Item x =
    (h : Header) × (inner : List ℕ) × IsEnclosed rules h inner x
    × IsUnknownType rules Item (type_of (label_of_header h)) h.constructed inner

unfoldable pub IsAny : ℕ → EncodingRules → List ℕ → Type 0
IsAny zero rules x = ⊥
IsAny (suc d) rules x = IsElementOfAny rules (IsAny d) x

-- a string with a constraint CONTAINING is the encoding of a value (X.682 11); of an open type that
-- the table does not know, any octets
pub data Contains (rules : EncodingRules) (t : Table) (Child : Values) (known : Known) (i : ℕ) (inner : List ℕ) : Type 0 where
  typed : Child rules known i inner → Contains rules t Child known i inner
  untyped : IsUnknownOpen t known i → Contains rules t Child known i inner

-- the node of the value in it
abbrev pub contained_in : Universal → Node → Option ℕ
contained_in OctetString n = n.inner
contained_in u n = None

abbrev pub IsContained : EncodingRules → Table → Values → Known → Option ℕ → List ℕ → Type 0
IsContained rules t Child known None inner = Unit {0}
IsContained rules t Child known (Some i) inner = Contains rules t Child known i inner

-- a primitive encoding keeps the constraints of a node
abbrev pub AreBounded : Bool → EncodingRules → Table → Values → Known → Node → Universal → List ℕ → Type 0
AreBounded true rules t Child known n u inner = Unit {0}
AreBounded false rules t Child known n u inner =
    IsConstrained rules t n u inner
    × IsContained rules t Child known (contained_in u n) inner

-- a string in the constructed form (8.6.4, 8.7.3, 8.23)
abbrev pub is_joined : Bool → Universal → Bool
is_joined constructed u = constructed && is_string (form_of u)

-- contents of a constructed string of a node under BER: segments, nested at most 64 deep, that are
-- joined to a text, which keeps the rules of the type and the constraints of the node
abbrev pub IsJoinedText : EncodingRules → Table → Node → Universal → List ℕ → Type 0
IsJoinedText rules t n u inner =
    (rules ≡ Ber) × ((text : List ℕ) × AreSegments 64 u inner text × IsContents rules u text
    × IsConstrained rules t n u text)

-- contents of a node of a universal type without components, in the constructed form of a string or
-- in another form
abbrev pub IsOfType : Bool → Bool → EncodingRules → Table → Values → Elements → Known → Node → Universal → List ℕ → Type 0
IsOfType true c rules t Child Item known n u inner = IsJoinedText rules t n u inner
IsOfType false c rules t Child Item known n u inner =
    IsUnknownType rules Item (Some u) c inner × AreBounded c rules t Child known n u inner

-- the contents of an element whose tag is that of a node of a shape
abbrev pub AreContents : Shape → EncodingRules → Table → Values → Elements → Known → Node → Header → List ℕ → Type 0
AreContents Components rules t Child Item known n h inner =
    (h.constructed ≡ true) × AreFrom Child Item rules t n n.parts.count n.parts.start None inner
AreContents Members rules t Child Item known n h inner =
    (h.constructed ≡ true) × SomeMembers Child Item rules t n [] [] inner
AreContents (Of u) rules t Child Item known n h inner =
    IsOfType (is_joined h.constructed u) h.constructed rules t Child Item known n u inner
AreContents Items rules t Child Item known n h inner =
    (h.constructed ≡ true) × ((i : ℕ) × (n.inner ≡ Some i) × SomeItems false rules (Child rules known i) (IsAllowedSize t n.limits) inner)
AreContents SortedItems rules t Child Item known n h inner =
    (h.constructed ≡ true) × ((i : ℕ) × (n.inner ≡ Some i) × SomeItems true rules (Child rules known i) (IsAllowedSize t n.limits) inner)
AreContents Inner rules t Child Item known n h inner =
    (h.constructed ≡ true) × ((i : ℕ) × (n.inner ≡ Some i) × Child rules known i inner)
AreContents Untyped rules t Child Item known n h inner =
    IsUnknownType rules Item (type_of (label_of_header h)) h.constructed inner
AreContents Nothing rules t Child Item known n h inner = ⊥

-- a value of a node that is no CHOICE: an element with its tag, or the value of the open type that
-- the OBJECT IDENTIFIER chooses
pub data IsNode (rules : EncodingRules) (t : Table) (Child : Values) (Item : Elements) (known : Known) (n : Node) (x : List ℕ) : Type 0 where
  element : (h : Header) (inner : List ℕ) → IsEnclosed rules h inner x → HasTag n h.class h.number
      → (n.kind ≡ Open → IsUnknown t n known)
      → AreContents (shape_of n.kind) rules t Child Item known n h inner
      → IsNode rules t Child Item known n x
  chosen : (m : ℕ) → n.kind ≡ Open → IsChosen t n known m → Child rules known m x
      → IsNode rules t Child Item known n x

-- octets are the encoding of a value of a node: of itself, or of an alternative of it
unfoldable pub IsValue : Table → ℕ → Values
IsValue t zero rules known i x = ⊥
IsValue t (suc d) rules known i x =
    (via : Option ℕ) × (m : ℕ)
    × SelectsOne t (λ n. IsNode rules t (IsValue t d) (IsAny d) known n x) i via m
