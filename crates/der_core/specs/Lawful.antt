-- The property that exactly the encodings of values are read. `IsLawful` is what the implementor of
-- a type proves; it implies `ReadsEncodings`, `ReadsWholeEncodings`, `PassesEncodings` and
-- `ReadsWritten` for its elements. `ReadsExactly` holds for tags, lengths and headers.
use Rattle.std.specs.Prelude.{◌≡◌, ◌↔◌, ℕ, ◌^◌, ◌<◌, ◌≤◌, List, ◌++◌, length}
use Rattle.der_base.specs.Length.{number, definite_length}
use Rattle.der_base.specs.Tag.{label}
use Rattle.der_base.specs.HeaderGrammar.{Head, head}
use Rattle.der_base.specs.declared.length.Length.{Length}
use Rattle.der_base.specs.declared.tag.Tag.{Tag}
use Rattle.der_base.specs.declared.encoding_rules.EncodingRules.{EncodingRules}
use Rattle.der_base.specs.declared.encoding_rules.EncodingRules.TheVariants.{Der}
use Rattle.der_core.specs.Decode.{Passes, Whole}
use Rattle.der_core.specs.Element.{ElementNext}
use Rattle.der_core.specs.Encode.{element_octets}
use Rattle.der_core.specs.Header.{head_of}
use Rattle.der_core.specs.ReaderState.{ReaderState, Reads}
use Rattle.der_core.specs.declared.header.Header.{Header}

-- the header of a tag and n contents octets (X.690 10.1)
abbrev pub definite_head : Tag → ℕ → Head
definite_head t n = head t (definite_length n) (label t).constructed

-- a length in the definite form, of 32 bits
abbrev pub IsDefinite : Length → Type 0
IsDefinite l = (l ≡ definite_length (number l)) × (number l < 2 ^ 32)

-- a header with the constructed bit of its tag, and with a definite length
pub record IsDefiniteHeader (h : Header) : Type 0 where
  pub says : head_of h ≡ definite_head (head_of h).tag (number (head_of h).length)
  pub numbered : (label (head_of h).tag).number < 2 ^ 32
  pub small : number (head_of h).length < 2 ^ 32

-- a type with this tag is lawful: under DER contents are accepted as a value exactly if it is valid
-- and they are its encoded contents; they require at most 63 levels of nesting, so that a reader
-- can enter the element; and the number of the tag has 32 bits
pub record IsLawful {A : Type 0} (tag : Tag) (takes : A → EncodingRules → Head → List ℕ → Type 0)
    (valid : A → Type 0) (contents : A → List ℕ) (levels : EncodingRules → ℕ) : Type 0 where
  pub exact : (octets : List ℕ) (v : A) → length octets < 2 ^ 32
      → takes v Der (definite_head tag (length octets)) octets
      ↔ (valid v × (contents v ≡ octets))
  pub shallow : levels Der ≤ 63
  pub numbered : (label tag).number < 2 ^ 32

-- the first m octets of a list are the encoding of a valid value
pub record EncodingNext {A : Type 0} (valid : A → Type 0) (encoding : A → List ℕ) (v : A)
    (octets : List ℕ) (m : ℕ) : Type 0 where
  pub is_valid : valid v
  pub following : List ℕ
  pub split : octets ≡ encoding v ++ following
  pub whole : m ≡ length (encoding v)

-- under DER octets that begin with a value begin with its encoding; conversely, octets that begin
-- with the encoding of a valid value begin with that value, if a length can represent their number
pub record ReadsEncodings {A : Type 0} (Next : A → EncodingRules → List ℕ → ℕ → Type 0)
    (valid : A → Type 0) (encoding : A → List ℕ) : Type 0 where
  pub only : (octets : List ℕ) (v : A) (m : ℕ) → Next v Der octets m
      → EncodingNext valid encoding v octets m
  pub every : (octets : List ℕ) (v : A) (m : ℕ) → length octets < 2 ^ 32
      → EncodingNext valid encoding v octets m → Next v Der octets m

-- under DER octets that are entirely a value are its encoding; conversely, the encoding of a valid
-- value is entirely that value, if a length can represent its number of octets
pub record ReadsWholeEncodings {A : Type 0} (Next : A → EncodingRules → List ℕ → ℕ → Type 0)
    (valid : A → Type 0) (encoding : A → List ℕ) : Type 0 where
  pub only : (octets : List ℕ) (v : A) → Whole (Next v) Der octets
      → valid v × (octets ≡ encoding v)
  pub every : (octets : List ℕ) (v : A) → length octets < 2 ^ 32 → valid v
      → octets ≡ encoding v → Whole (Next v) Der octets

-- a DER reader that has consumed a value has consumed its encoding, and nothing else
abbrev pub PassesEncodings : {A : Type 0} → (A → EncodingRules → List ℕ → ℕ → Type 0)
    → (A → Type 0) → (A → List ℕ) → Type 0
PassesEncodings {A} Next valid encoding =
    (s t : ReaderState) (v : A) → s.rules ≡ Der → Passes (Next v) s t
    → valid v × Reads s t (encoding v)

-- under DER an encoding is read back, whatever follows: octets that begin with it begin with its
-- value and with no other
pub record ReadsBack {A : Type 0} (Next : A → EncodingRules → List ℕ → ℕ → Type 0)
    (valid : A → Type 0) (encoding : A → List ℕ) : Type 0 where
  pub next : (v : A) (more : List ℕ) → valid v → length (encoding v ++ more) < 2 ^ 32
      → Next v Der (encoding v ++ more) (length (encoding v))
  pub alone : (v w : A) (more : List ℕ) (m : ℕ) → valid v → Next w Der (encoding v ++ more) m
      → (w ≡ v) × (m ≡ length (encoding v))

-- under DER values are read from exactly their encodings: from the start of octets, from all of
-- them, by a reader, and from what was written
pub record ReadsExactly {A : Type 0} (Next : A → EncodingRules → List ℕ → ℕ → Type 0)
    (valid : A → Type 0) (encoding : A → List ℕ) : Type 0 where
  pub front : ReadsEncodings Next valid encoding
  pub whole : ReadsWholeEncodings Next valid encoding
  pub passed : PassesEncodings Next valid encoding
  pub written : ReadsBack Next valid encoding

-- under DER an encoded element is read back, whatever follows: octets that begin with it begin with
-- its value, and every value with which they begin has the same contents
pub record ReadsWritten {A : Type 0} (tag : Tag)
    (takes : A → EncodingRules → Head → List ℕ → Type 0) (valid : A → Type 0)
    (contents : A → List ℕ) : Type 0 where
  pub next : (v : A) (more : List ℕ) → valid v
      → length (element_octets tag (contents v) ++ more) < 2 ^ 32
      → ElementNext tag takes v Der (element_octets tag (contents v) ++ more)
      (length (element_octets tag (contents v)))
  pub alone : (v w : A) (more : List ℕ) (m : ℕ)
      → ElementNext tag takes w Der (element_octets tag (contents v) ++ more) m
      → (contents w ≡ contents v) × (m ≡ length (element_octets tag (contents v)))
