-- When fields are read as they are written, which may depend on what follows them (`FieldNext`,
-- `ReadsFields`): which tags are next (`TagIn`, `NoTagIn`), which tags encodings begin with
-- (`Starts`, `MayStart`), and which tags must not follow a value (`PrecedesBut`).
use Rattle.std.specs.Prelude.{◌≡◌, ℕ, ◌^◌, ◌<◌, ◌⊎◌, List, [], ◌++◌, length}
use Rattle.der.specs.HeaderGrammar.{TagNext}
use Rattle.der.specs.Tag.{label}
use Rattle.der.specs.Prelude.{tag_octets, Tag, EncodingRules, Der}

-- the first m octets are the encoding of a valid value, and the value may precede the other octets
pub record FieldNext {A : Type 0} (valid : A → Type 0) (encoding : A → List ℕ)
    (MayPrecede : A → List ℕ → Type 0) (v : A) (octets : List ℕ) (m : ℕ) : Type 0 where
  pub is_valid : valid v
  pub following : List ℕ
  pub split : octets ≡ encoding v ++ following
  pub whole : m ≡ length (encoding v)
  pub precedes : MayPrecede v following

-- under DER, if a field is next, the octets begin with its encoding, followed by something that may
-- follow it; conversely, if they do, and their number fits in a `Length`, the field is next
pub record ReadsFields {A : Type 0} (Next : A → EncodingRules → List ℕ → ℕ → Type 0)
    (valid : A → Type 0) (encoding : A → List ℕ) (MayPrecede : A → List ℕ → Type 0)
    : Type 0 where
  pub only : (octets : List ℕ) (v : A) (m : ℕ) → Next v Der octets m
      → FieldNext valid encoding MayPrecede v octets m
  pub every : (octets : List ℕ) (v : A) (m : ℕ) → length octets < 2 ^ 32
      → FieldNext valid encoding MayPrecede v octets m → Next v Der octets m

-- anything may follow
abbrev pub Anything : {A : Type 0} → A → List ℕ → Type 0
Anything v following = Unit {0}

-- one of these tags is next
pub record TagIn (tags : Tag → Type 0) (rules : EncodingRules) (octets : List ℕ) : Type 0 where
  pub tag : Tag
  pub count : ℕ
  pub next : TagNext tag rules octets count
  pub among : tags tag

-- none of these tags is next: there are no octets, or another tag is next
pub data NoTagIn (tags : Tag → Type 0) (rules : EncodingRules) (octets : List ℕ) : Type 0 where
  nothing : octets ≡ [] → NoTagIn tags rules octets
  other : (t : Tag) (n : ℕ) → TagNext t rules octets n → (tags t → ⊥)
      → NoTagIn tags rules octets

-- octets begin with one of these tags
pub record StartsIn (tags : Tag → Type 0) (octets : List ℕ) : Type 0 where
  pub tag : Tag
  pub more : List ℕ
  pub split : octets ≡ tag_octets tag ++ more
  pub numbered : (label tag).number < 2 ^ 32
  pub among : tags tag

-- the encodings of valid values begin with one of these tags
pub record Starts {A : Type 0} (valid : A → Type 0) (encoding : A → List ℕ) (tags : Tag → Type 0)
    : Type 0 where
  pub starts : (v : A) → valid v → StartsIn tags (encoding v)

-- the encodings of valid values begin with one of these tags, or are empty
pub record MayStart {A : Type 0} (valid : A → Type 0) (encoding : A → List ℕ)
    (tags : Tag → Type 0) : Type 0 where
  pub starts : (v : A) → valid v → (encoding v ≡ []) ⊎ StartsIn tags (encoding v)

-- valid values may precede any octets that begin with none of these tags
pub record PrecedesBut {A : Type 0} (valid : A → Type 0) (MayPrecede : A → List ℕ → Type 0)
    (stops : Tag → Type 0) : Type 0 where
  pub precedes : (v : A) (following : List ℕ) → valid v → NoTagIn stops Der following
      → MayPrecede v following

-- sets of tags: no tag, one tag, any tag, and the tags of two sets
abbrev pub no_tags : Tag → Type 0
no_tags t = ⊥

abbrev pub this_tag : Tag → Tag → Type 0
this_tag u t = t ≡ u

abbrev pub any_tag : Tag → Type 0
any_tag t = Unit {0}

abbrev pub either_tags : (Tag → Type 0) → (Tag → Type 0) → Tag → Type 0
either_tags f g t = f t ⊎ g t

-- the first value may precede the second, and the second may precede what follows both
abbrev pub BothPrecede : {A B : Type 0} → (B → List ℕ) → (A → List ℕ → Type 0)
    → (B → List ℕ → Type 0) → A × B → List ℕ → Type 0
BothPrecede second first_precedes second_precedes v following =
    first_precedes v.0 (second v.1 ++ following) × second_precedes v.1 following
