-- The elements of a SET (X.690 8.11): components in any order, in that of their tags under DER (10.3), and
-- extension additions that the type does not have.
use Rattle.std.specs.Prelude.{◌≡◌, ◌⊎◌, ℕ, zero, suc, ◌<◌, nat_eq, ◌||◌, Bool, true, false, List, [], ◌∷◌, ◌++◌, None}
use Rattle.der_base.specs.Class.{class_number}
use Rattle.der_base.specs.declared.encoding_rules.EncodingRules.{EncodingRules}
use Rattle.der_base.specs.declared.encoding_rules.EncodingRules.TheVariants.{Der}
use Rattle.ber.specs.Header.{IsNext}
use Rattle.ber.specs.declared.header.Header.{Header}
use Rattle.schema_types.specs.Table.{Table}
use Rattle.schema_types.specs.declared.field.Field.{Field}
use Rattle.schema_types.specs.declared.node.Node.{Node}
use Rattle.schema_types.specs.Tags.{IsFieldOf, Begins}
use Rattle.schema_read.specs.Components.{Values, Elements, IsComponent, MayBeAbsent}

-- the field of an index is one of those that were there
abbrev pub is_seen : List ℕ → ℕ → Bool
is_seen [] k = false
is_seen (s ∷ seen) k = nat_eq s k || is_seen seen k

-- a tag is before another (X.680 8.6): its class is, or its number, if they have one class
abbrev pub IsTagBefore : Header → Header → Type 0
IsTagBefore h g =
    (class_number h.class < class_number g.class)
    ⊎ ((class_number h.class ≡ class_number g.class) × (h.number < g.number))

-- in a SET the tag of an element is after that of the one before it, under DER (10.3)
abbrev pub IsTagAfter : EncodingRules → List ℕ → List ℕ → Type 0
IsTagAfter rules before x =
    rules ≡ Der → (h g : Header) → IsNext h before → IsNext g x → IsTagBefore h g

-- no field of a node begins with the header of an element
abbrev pub IsUntaken : Table → Node → List ℕ → Type 0
IsUntaken t n x =
    (k : ℕ) (f : Field) (h : Header) → IsFieldOf t n k f → IsNext h x → Begins t f.node h.class h.number → ⊥

-- an element of a SET, and the fields that were there before it and after it: the component of
-- another field, or an extension addition that the type does not have
pub data IsMember (Child : Values) (Item : Elements) (rules : EncodingRules) (t : Table) (n : Node) (seen : List ℕ) (x : List ℕ)
    : List ℕ → Type 0 where
  component : (k : ℕ) (f : Field) → IsFieldOf t n k f → is_seen seen k ≡ false → IsComponent Child rules t None f x
      → IsMember Child Item rules t n seen x (seen ++ k ∷ [])
  addition : n.extensible ≡ true → Item rules x → IsUntaken t n x → IsMember Child Item rules t n seen x seen

-- each field of a node was there, or may be absent
abbrev pub ArePresent : Table → Node → List ℕ → Type 0
ArePresent t n seen = (k : ℕ) (f : Field) → IsFieldOf t n k f → MayBeAbsent f ⊎ (is_seen seen k ≡ true)

-- so many elements of a SET, in any order under BER (8.11), after those of fields that were there
abbrev pub AreMembers : Values → Elements → EncodingRules → Table → Node → ℕ → List ℕ → List ℕ → List ℕ → Type 0
AreMembers Child Item rules t n zero seen before octets = (octets ≡ []) × ArePresent t n seen
AreMembers Child Item rules t n (suc m) seen before octets =
    (x : List ℕ) × (rest : List ℕ) × (after : List ℕ) × (octets ≡ x ++ rest) × IsTagAfter rules before x
    × IsMember Child Item rules t n seen x after × AreMembers Child Item rules t n m after x rest

-- the contents of a SET
abbrev pub SomeMembers : Values → Elements → EncodingRules → Table → Node → List ℕ → List ℕ → List ℕ → Type 0
SomeMembers Child Item rules t n seen before octets =
    (m : ℕ) × AreMembers Child Item rules t n m seen before octets
