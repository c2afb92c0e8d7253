-- Items of lists (`ItemSpec`): values that are encoded as one element, and are read the same
-- whatever follows them (`IsItem`), such as elements of one type, elements of any tag, and the
-- alternatives of a CHOICE.
use Rattle.std.proofs.Common.{◌≡◌, ℕ, ◌≤◌, Bool, List, refl, arith}
use Rattle.der.specs.Prelude.{Head, Tag, EncodingRules, Der, ElementNext, IsLawful}
use Rattle.der.specs.Prelude.{element_octets, element_levels}
use Rattle.der.specs.Lawful.{ReadsEncodings}
use Rattle.der.specs.LawfulLemmas.{elements_are_encodings}

-- octets are one element
pub record IsElement (octets : List ℕ) : Type 0 where
  pub tag : Tag
  pub contents : List ℕ
  pub whole : octets ≡ element_octets tag contents

-- an item: which values octets begin with and how many octets each has, the valid values and their
-- encodings, the levels of nesting, and whether decoding allocates
pub record ItemSpec (A : Type 0) : Type 1 where
  pub next : A → EncodingRules → List ℕ → ℕ → Type 0
  pub valid : A → Type 0
  pub octets : A → List ℕ
  pub levels : EncodingRules → ℕ
  pub allocates : Bool

-- under DER, octets begin with an item if and only if they begin with the encoding of a valid
-- value, which is one element; a reader outside all nested parts has enough levels for it
pub record IsItem {A : Type 0} (item : ItemSpec A) : Type 0 where
  pub reads : ReadsEncodings item.next item.valid item.octets
  pub element : (v : A) → item.valid v → IsElement (item.octets v)
  pub shallow : item.levels Der ≤ 64

-- under DER, a decoder decodes exactly these items, with their number of nesting levels, and
-- allocates only if they do
pub record DecodesItems {A : Type 0} (Decoded : A → EncodingRules → List ℕ → ℕ → Type 0)
    (levels : EncodingRules → ℕ) (allocates : Bool) (item : ItemSpec A) : Type 0 where
  pub only : (v : A) (octets : List ℕ) (m : ℕ) → Decoded v Der octets m
      → item.next v Der octets m
  pub every : (v : A) (octets : List ℕ) (m : ℕ) → item.next v Der octets m
      → Decoded v Der octets m
  pub same_levels : levels Der ≡ item.levels Der
  pub same_memory : allocates ≡ item.allocates

-- an element of a type with this tag, which is an item if the type is lawful
abbrev pub element_item : {A : Type 0} → Tag → (A → EncodingRules → Head → List ℕ → Type 0)
    → (A → Type 0) → (A → List ℕ) → (EncodingRules → ℕ) → Bool → ItemSpec A
element_item tag takes valid contents levels allocates =
    record {
      next = ElementNext tag takes;
      valid = valid;
      octets = λ v. element_octets tag (contents v);
      levels = element_levels levels;
      allocates = allocates;
    }

pub element_is_item : {A : Type 0} {tag : Tag}
    {takes : A → EncodingRules → Head → List ℕ → Type 0} {valid : A → Type 0}
    {contents : A → List ℕ} {levels : EncodingRules → ℕ}
    → IsLawful tag takes valid contents levels → (allocates : Bool)
    → IsItem (element_item tag takes valid contents levels allocates)
element_is_item {tag = tag} {contents = contents} lawful allocates =
    record {
      reads = elements_are_encodings lawful;
      element = λ v is. record { tag = tag; contents = contents v; whole = refl };
      shallow = omega (arith, lawful.shallow);
    }

-- a decoder whose values are the items themselves
pub decodes_same : {A : Type 0} (item : ItemSpec A)
    → DecodesItems item.next item.levels item.allocates item
decodes_same item =
    record {
      only = λ v octets m h. h;
      every = λ v octets m h. h;
      same_levels = refl;
      same_memory = refl;
    }
